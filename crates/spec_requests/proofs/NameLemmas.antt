-- No word but a name is read as what the name stands for.
use Rattle.std.proofs.Common.{◌≡◌, ◌∙◌, Bool, true, false, [], ◌∷◌, Option, Some, None, cond, option_map, refl, sym, ap}
use Rattle.std.specs.List.{list_all}
use Rattle.std.specs.Str.{bytes_eq}
use Rattle.std.proofs.lemmas.Bool.{and_parts}
use Rattle.std.proofs.lemmas.Slice.Eq.{bytes_eq-Decides}
use Rattle.spec_kinds.specs.declared.kind.Kind.{Kind}
use Rattle.spec_kinds.specs.declared.table.KindRow.{KindRow}
use Rattle.spec_kinds.specs.Table.{kind_name, rows}
use Rattle.spec_requests.specs.Names.{Table, Text, kind_of, named}

-- where each row has the name of its value, a word that is read as a value is the value's name
pub read_by_name : {X : Type 0} (name : X → Text) (rows : Table X) (word : Text) (x : X)
    → list_all (λ row. bytes_eq row.0 (name row.1)) rows ≡ true → named rows word ≡ Some x → word ≡ name x
read_by_name name [] word x own read = absurd (cc)
read_by_name name (row ∷ rows) word x own read =
    let parts = and_parts (bytes_eq row.0 (name row.1)) (list_all (λ r. bytes_eq r.0 (name r.1)) rows) own in
    first (bytes_eq row.0 word) refl parts.0 (read_by_name name rows word x parts.1) read
  where
    first : (b : Bool) → bytes_eq row.0 word ≡ b → bytes_eq row.0 (name row.1) ≡ true
        → (named rows word ≡ Some x → word ≡ name x) → cond b (Some row.1) (named rows word) ≡ Some x → word ≡ name x
    first false same is rest here = rest here
    first true same is rest here =
        let value : row.1 ≡ x = cc in
        sym ((bytes_eq-Decides row.0 word).0 same) ∙ (bytes_eq-Decides row.0 (name row.1)).0 is ∙ ap name value

-- the same of kinds, whose table has more than their names
pub kind_words : (word : Text) (x : Kind) → kind_of word ≡ Some x → word ≡ kind_name x
unfolding kind_of
kind_words word x read = one (named rows word) refl read
  where
    one : (found : Option KindRow) → named rows word ≡ found → option_map (λ row. row.kind) found ≡ Some x → word ≡ kind_name x
    one None is e = absurd (cc)
    one (Some row) is e =
        let own : row.kind ≡ x = cc in
        read_by_name (λ (r : KindRow). kind_name r.kind) rows word row refl is ∙ ap kind_name own
