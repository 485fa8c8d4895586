-- Edits behind one another.
use Rattle.std.proofs.Common.{◌≡◌, ℕ, List, [], ◌∷◌, ◌++◌, Option, Some, drop, length, take, refl, sym, ◌∙◌, ap, subst, append_assoc, append-nil}
use Rattle.std.proofs.lemmas.List.{take-append-drop}
use Rattle.std.proofs.Math.Seq.{drop-length}
use Rattle.pnp_labels.specs.Texts.{Text}
use Rattle.view_states.specs.States.{Edit, IsEdited, IsNext, Tells, edit_text, edited, edits_text}

-- where both texts begin alike, one edit and those of the rests behind it
pub behind : (old new : Text) (stay go come : ℕ) → take stay old ≡ take stay new → (edits : List Edit) → edited edits (drop go (drop stay old)) ≡ drop come (drop stay new)
    → edited (record { stay = stay; go = go; come = take come (drop stay new) } ∷ edits) old ≡ new
behind old new stay go come same edits is =
    ap (λ (t : Text). t ++ take come (drop stay new) ++ edited edits (drop go (drop stay old))) same
    ∙ ap (λ (t : Text). take stay new ++ take come (drop stay new) ++ t) is
    ∙ append_assoc (take stay new) (take come (drop stay new)) (drop come (drop stay new))
    ∙ ap (λ (t : Text). take stay new ++ t) (take-append-drop come (drop stay new))
    ∙ take-append-drop stay new

-- the same, as it is cut
pub next_by : (before after old new old_back new_back old_rest come new_rest : Text) (stay go size : ℕ) → take stay old ≡ take stay new → old_back ≡ drop stay old → new_back ≡ drop stay new → old_rest ≡ drop go old_back
    → come ≡ take size new_back → new_rest ≡ drop size new_back → after ≡ before ++ edit_text (record { stay = stay; go = go; come = come }) → IsNext before after old new old_rest new_rest
next_by before after old new old_back new_back old_rest come new_rest stay go size same olds news gone comes rest is = record {
  edit = record { stay = stay; go = go; come = come };
  written = is;
  leads = λ edits leads.
      ap (λ (t : Text). take stay old ++ t ++ edited edits (drop go (drop stay old))) (comes ∙ ap (take size) news)
      ∙ behind old new stay go size same edits (ap (edited edits) (sym (gone ∙ ap (drop go) olds)) ∙ leads ∙ rest ∙ ap (drop size) news);
}

pub edits_more : (edits : List Edit) (edit : Edit) → edits_text (edits ++ edit ∷ []) ≡ edits_text edits ++ edit_text edit
edits_more [] edit = append-nil (edit_text edit)
edits_more (first ∷ edits) edit = ap (λ (t : Text). edit_text first ++ t) (edits_more edits edit) ∙ sym (append_assoc (edit_text first) (edits_text edits) (edit_text edit))

-- Edits so far: with those of the rests they make the text into the other.
pub record Editing (before after old new old_rest new_rest : Text) : Type 0 where
  pub edits : List Edit
  pub written : after ≡ before ++ edits_text edits
  pub leads : (more : List Edit) → edited more old_rest ≡ new_rest → edited (edits ++ more) old ≡ new

pub none_yet : (before old new : Text) → Editing before before old new old new
none_yet before old new = record { edits = []; written = sym (append-nil before); leads = λ more is. is }

pub one_more : (before mid after old new old_mid new_mid old_rest new_rest : Text) → Editing before mid old new old_mid new_mid → IsNext mid after old_mid new_mid old_rest new_rest → Editing before after old new old_rest new_rest
one_more before mid after old new old_mid new_mid old_rest new_rest far next = record {
  edits = far.edits ++ next.edit ∷ [];
  written = next.written ∙ ap (λ (t : Text). t ++ edit_text next.edit) far.written ∙ append_assoc before (edits_text far.edits) (edit_text next.edit)
      ∙ ap (λ (t : Text). before ++ t) (sym (edits_more far.edits next.edit));
  leads = λ more is. ap (λ (e : List Edit). edited e old) (append_assoc far.edits (next.edit ∷ []) more) ∙ far.leads (next.edit ∷ more) (next.leads more is);
}

pub all_same : (before after old new old_rest new_rest : Text) → Editing before after old new old_rest new_rest → old_rest ≡ new_rest → IsEdited before after old new
all_same before after old new old_rest new_rest far same = record {
  edits = far.edits;
  written = far.written;
  is = ap (λ (e : List Edit). edited e old) (sym (append-nil far.edits)) ∙ far.leads [] same;
}

-- all that is left goes
pub replaced : (before mid after old new old_rest new_rest : Text) → Editing before mid old new old_rest new_rest
    → after ≡ mid ++ edit_text (record { stay = 0; go = length old_rest; come = new_rest }) → IsEdited before after old new
replaced before mid after old new old_rest new_rest far is =
    all_same before after old new [] [] (one_more before mid after old new old_rest new_rest [] [] far (record {
      edit = record { stay = 0; go = length old_rest; come = new_rest };
      written = is;
      leads = λ edits none. ap (λ (t : Text). new_rest ++ edited edits t) (drop-length old_rest) ∙ ap (λ (t : Text). new_rest ++ t) none ∙ append-nil new_rest;
    })) refl

-- What is told of a row -------------------------------------------------------------------

pub told_more : (written mid after last text : Text) (rows : List (Option Text)) → Tells written rows last → IsEdited written mid last text → after ≡ mid ++ 10 ∷ [] → Tells after (rows ++ Some text ∷ []) text
told_more written mid after last text rows h e is =
    subst (λ (x : Text). Tells after (rows ++ Some x ∷ []) x) e.is
    (subst (λ (w : Text). Tells w (rows ++ Some (edited e.edits last) ∷ []) (edited e.edits last)) (sym (is ∙ ap (λ (t : Text). t ++ 10 ∷ []) e.written)) (Tells.told written rows last e.edits h))
