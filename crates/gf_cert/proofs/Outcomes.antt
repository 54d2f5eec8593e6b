-- What a whole text comes to, by what comes of its first line.
use Rattle.std.proofs.Common.{◌≡◌, ◌+◌, ℕ, List, [], ◌∷◌, length, Result, Ok, Err, sym, ◌∙◌}
use Rattle.std.specs.Prelude.{IfOk}
use Rattle.spec_text.specs.Lines.{Numbered, lines, text_lines, tokens}
use Rattle.spec_trees.specs.declared.tree.Leaf.{Leaf}
use Rattle.spec_trees.specs.declared.tree.Node.{Node}
use Rattle.spec_trees.specs.Tree.{AreLeaves, Covers, IsValid}
use Rattle.spec_certificates.specs.declared.entry.CertFault.{CertFault}
use Rattle.spec_faults.specs.declared.numbers.TheConstants.{CERT_LINE, CERT_REQUEST}
use Rattle.spec_certificates.specs.Checks.{checked, leaves_from, with_words}
use Rattle.spec_certificates.specs.Entries.{form_words}
use Rattle.spec_certificates.specs.Places.{Cutting, IsCutting}
use Rattle.spec_certificates.proofs.Sound.{are_certified}
use Rattle.gf_cert.specs.declared.errors.CertError.{CertError}
use Rattle.gf_cert.specs.Answers.{Gives}

-- what holds for the leaves that are wanted holds for those that are given
if_given : {X : Type 0} (view : X → List Leaf) (P : List Leaf → Type 0) (wanted : Result (List Leaf) CertFault) (r : Result X CertError) → ((ls : List Leaf) → wanted ≡ Ok ls → P ls) → Gives view wanted r → IfOk r (λ x. P (view x))
if_given view P wanted (Ok x) all gives = all (view x) gives
if_given view P wanted (Err e) all gives = tt

-- so does what holds for leaves that cover a valid root, each with the mark of its verdict, where a text is a certificate
pub if_accepted : {X : Type 0} (view : X → List Leaf) (P : List Leaf → Type 0) (c : Cutting) → IsCutting c → (root : Node) → IsValid c.rules root
    → (line text : List ℕ) (r : Result X CertError) → ((ls : List Leaf) → Covers root.a ls root.b → AreLeaves c.rules ls → P ls)
    → Gives view (checked c root line text) r → IfOk r (λ x. P (view x))
if_accepted view P c is root valid line text r all gives =
    if_given view P (checked c root line text) r
    (λ ls e. let certified = are_certified c is root valid line text ls e in all ls certified.cover certified.are) gives

module _ (c : Cutting) (root : Node) (line text : List ℕ) (first : List Numbered) (end : ℕ) (all : first ≡ text_lines text) (last : end ≡ length (lines text) + 1) where
  begun : with_words form_words CERT_LINE end (with_words (tokens line) CERT_REQUEST end (leaves_from c end (root ∷ []) 0)) first ≡ checked c root line text
  unfolding checked
  begun = λ i. with_words form_words CERT_LINE (last i) (with_words (tokens line) CERT_REQUEST (last i) (leaves_from c (last i) (root ∷ []) 0)) (all i)

  pub checked_by : (later : List Numbered) (again : ℕ) → again ≡ end → ((further : List Numbered → Result (List Leaf) CertFault) → with_words form_words CERT_LINE end further first ≡ further later)
      → with_words (tokens line) CERT_REQUEST again (leaves_from c again (root ∷ []) 0) later ≡ checked c root line text
  checked_by later again same steps =
      (λ i. with_words (tokens line) CERT_REQUEST (same i) (leaves_from c (same i) (root ∷ []) 0) later)
      ∙ sym (steps (with_words (tokens line) CERT_REQUEST end (leaves_from c end (root ∷ []) 0))) ∙ begun

  pub stopped_by : (fault : CertFault) → ((further : List Numbered → Result (List Leaf) CertFault) → with_words form_words CERT_LINE end further first ≡ Err fault) → checked c root line text ≡ Err fault
  stopped_by fault steps = sym begun ∙ steps (with_words (tokens line) CERT_REQUEST end (leaves_from c end (root ∷ []) 0))
