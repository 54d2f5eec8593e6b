use Rattle.std.proofs.Common.{◌≡◌, ◌++◌, Option, append-nil, subst, sym}
use Rattle.std.specs.Result.{OnOk}
use Rattle.spec_faults.specs.Faults.{Kind}
use Rattle.spec_output.specs.Messages.{kind_title, title}
use Rattle.gf_find.proofs.messages.add_fault_name.Goals as goal

pub returns-in-Some : goal.returns-in-Some
unfolding title
returns-in-Some c =
    let P : Option Kind → Type 0 =
    λ found. OnOk c.add_fault_kind.result (c.add_fault_kind.new.text.items ≡ c.args.text.now.items ++ kind_title found c.args.detail) in
    subst P (sym c.in-Some.ensures.found) c.add_fault_kind.ensures

pub returns-in-None : goal.returns-in-None
unfolding title
returns-in-None c =
    let P : Option Kind → Type 0 =
    λ found. c.args.text.now.items ≡ c.args.text.now.items ++ kind_title found c.args.detail in
    subst P (sym c.in-None.ensures.not_found) (sym (append-nil c.args.text.now.items))
