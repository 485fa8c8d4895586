-- Each trace that is a run is the output over drivers that answer so, where the script teaches none.
use Rattle.std.proofs.Common.{◌≡◌, inl, inr, List, [], ◌∷◌, ◌++◌, map, Option, None, refl, sym, ap, ◌∙◌, subst, arith}
use Rattle.std.proofs.lemmas.List.{append_assoc}
use Rattle.pnp_labels.specs.Texts.{Text, label_line}
use Rattle.pnp_labels.specs.declared.label.Label.{Label}
use Rattle.pnp_model.specs.Records.{Driver, State, Step, Settings, Doing}
use Rattle.pnp_model.specs.Machine.{next, IsStep, Steps, IsQuiet}
use Rattle.pnp_model.specs.Events.{happens}
use Rattle.pnp_model.specs.Endings.{joined}
use Rattle.pnp_model.specs.Runs.{opening}
use Rattle.script_reader.specs.Script.{Trace, gives, waits, ends, stops}
use Rattle.free_model.specs.Asks.{Query, next_query}
use Rattle.free_model.specs.Frees.{told, with_rack, free_opening, new_driver}
use Rattle.free_model.specs.Checks.{Place, Runs, Ends, Follow, bad_line, end_bytes}
use Rattle.free_model.specs.Outputs.{Settles, text_of, end_text, MachinePrints, TeachesNone, EachRunIsAnOutputLaw}
use Rattle.free_model.proofs.Racks.{faces_told}
use Rattle.free_model.proofs.Quiets.{quiet_same}
use Rattle.free_model.proofs.Ways.{rack_by}
use Rattle.free_model.proofs.WaySteps.{way_next, step_by}
use Rattle.free_model.proofs.Armed.{Books, Armed}
use Rattle.free_model.proofs.Answered.{happened, before, agreed, build, built_faces, built_kinds, built_book}
use Rattle.free_model.proofs.Outs.{ending_same, error_too}

-- the machine steps until it is quiet, and then prints the rest
record PrintsOn (settings : Settings) (s : State) (script : Trace) (out : Text) : Type 0 where
  labels : List Label
  new : State
  more : Text
  settles : Settles settings s labels new
  prints : MachinePrints settings new script more
  is : out ≡ text_of labels ++ more

-- with these books, and whatever is used up before them, the machine prints these lines
record PrintsSo (settings : Settings) (f : State) (script : Trace) (lines : List Text) : Type 0 where
  books : Books
  run : (r : List Driver) → Armed books r f.core.rack → PrintsOn settings (with_rack r f) script (joined lines)

abbrev NoEnd : Place → Type 0
NoEnd (Runs s script) = ⊥
NoEnd (Ends due) = Unit {0}

abbrev due_of : Place → Text
due_of (Runs s script) = []
due_of (Ends due) = due

-- the lines that follow are all that is due
all_due : (settings : Settings) (due : Text) (lines : List Text) → Follow settings (Ends due) lines (Ends []) → joined lines ≡ due
all_due settings due [] h = ap due_of h
all_due settings due (l ∷ lines) (mid, (more, is, none, there), h) =
    ap (λ (t : Text). l ++ 10 ∷ t) (all_due settings more lines (subst (λ (x : Place). Follow settings x lines (Ends [])) there h)) ∙ sym is

at_once : (settings : Settings) (s : State) (script : Trace) (out : Text) → IsQuiet settings s → MachinePrints settings s script out → PrintsOn settings s script out
at_once settings s script out quiet prints = record { labels = []; new = s; more = out; settles = (refl, quiet); prints = prints; is = refl }

-- a label's line before those of more labels
first_line : (label : Label) (labels : List Label) (line rest more : Text) → line ≡ label_line label → rest ≡ text_of labels ++ more → line ++ 10 ∷ rest ≡ text_of (label ∷ labels) ++ more
first_line label labels line rest more same is =
    ap (λ (t : Text). t ++ 10 ∷ rest) same ∙ ap (λ (t : Text). label_line label ++ 10 ∷ t) is ∙ sym (append_assoc (label_line label) (10 ∷ text_of labels) more)

prints_so : (settings : Settings) (lines : List Text) (f : State) (script : Trace) → TeachesNone script → Follow settings (Runs f script) lines (Ends []) → PrintsSo settings f script lines
prints_so settings [] f script none e = absurd (subst NoEnd e tt)
prints_so settings (line ∷ lines) f script none (mid, inl (label, new, (answer, (next_state, step, is)), l, there), follow) =
    let own : List Driver = f.core.rack in
    let q : Option Query = next_query (with_rack (told answer own) f) in
    let later = prints_so settings lines new script none (subst (λ (x : Place). Follow settings x lines (Ends [])) there follow) in
    let rack : new.core.rack ≡ own = ap (λ (s : State). s.core.rack) is in
    record {
      books = before q answer later.books;
      run = λ r h.
          let (agree, armed) = agreed q answer later.books r own h in
          let alike = way_next settings (with_rack (told answer own) f) r (h.shown ∙ sym (faces_told answer own)) in
          let goes : Steps settings (with_rack r f) label (with_rack (rack_by q r) next_state) = step_by settings q (told answer own) r label next_state alike agree step in
          let on = later.run (rack_by q r) (subst (Armed later.books (rack_by q r)) (sym rack) armed) in
          record {
            labels = label ∷ on.labels;
            new = on.new;
            more = on.more;
            settles = (with_rack (rack_by q r) new, subst (λ (s : State). Steps settings (with_rack r f) label s) (ap (with_rack (rack_by q r)) (sym is)) goes, on.settles);
            prints = on.prints;
            is = first_line label on.labels line (joined lines) on.more l on.is;
          };
    }
prints_so settings (line ∷ lines) f (gives number event rest) none (mid, inr (quiet, (own, l, there)), follow) =
    let later = prints_so settings lines (happens f event).state rest none.1 (subst (λ (x : Place). Follow settings x lines (Ends [])) there follow) in
    let label : Label = (happens f event).label in
    record {
      books = later.books;
      run = λ r h.
          let now = happened later.books f r event none.0 h in
          let on = later.run now.rack now.armed in
          at_once settings (with_rack r f) (gives number event rest) _ (quiet_same settings f r quiet) (
            label ∷ on.labels,
            on.new,
            on.more,
            record { own = own; first = label; begun = with_rack now.rack (happens f event).state; more = on.labels; happened = now.is; printed = refl; settled = on.settles },
            on.prints,
            first_line label on.labels line (joined lines) on.more l on.is,
          );
    }
prints_so settings (line ∷ lines) f ends none (mid, inr (quiet, allows), follow) =
    record {
      books = λ k. [];
      run = λ r h.
          at_once settings (with_rack r f) ends _ (quiet_same settings f r quiet)
          (all_due settings (end_bytes f) (line ∷ lines) (mid, allows, follow) ∙ ap joined (sym (ending_same f r h.shown)));
    }
prints_so settings (line ∷ lines) f (stops number) none (mid, inr (quiet, (l, there)), follow) =
    record {
      books = λ k. [];
      run = λ r h.
          at_once settings (with_rack r f) (stops number) _ (quiet_same settings f r quiet)
          (ap (λ (t : Text). t ++ 10 ∷ joined lines) l
          ∙ ap (λ (t : Text). bad_line number ++ 10 ∷ t) (all_due settings (end_bytes f) lines (subst (λ (x : Place). Follow settings x lines (Ends [])) there follow) ∙ ap joined (sym (ending_same f r h.shown)))
          ∙ sym (error_too number (end_text (with_rack r f))));
    }
prints_so settings (line ∷ lines) f waits none (mid, inr (quiet, allows), follow) = absurd allows

-- what is printed on from a quiet state is printed from it
from_rest : (settings : Settings) (s : State) (script : Trace) (out : Text) → next settings s ≡ None → PrintsOn settings s script out → MachinePrints settings s script out
from_rest settings s script out quiet on = by_labels on.labels on.settles on.is
  where
    by_labels : (labels : List Label) → Settles settings s labels on.new → out ≡ text_of labels ++ on.more → MachinePrints settings s script out
    by_labels [] (same, rests_now) is = subst (λ (x : State). MachinePrints settings x script out) same (subst (MachinePrints settings on.new script) (sym is) on.prints)
    by_labels (label ∷ labels) (mid, step, more) is = absurd (subst (λ (o : Option (Doing Step)). IsStep settings o (record { label = label; state = mid })) quiet step)

pub each_run : EachRunIsAnOutputLaw
each_run settings kinds script out none (lines, follow, is) =
    let so = prints_so settings lines (free_opening kinds) script none follow in
    let rack : List Driver = build so.books 0 kinds in
    let armed : Armed so.books rack (map new_driver kinds) =
    record {
      shown = built_faces so.books 0 kinds;
      has = λ k d at. ([], tt, built_book so.books 0 kinds k d at ∙ ap so.books (omega arith));
    }
    in
    (rack, built_kinds so.books 0 kinds, subst (MachinePrints settings (opening rack) script) (sym is) (from_rest settings (opening rack) script (joined lines) refl (so.run rack armed)))
