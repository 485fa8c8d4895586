-- What all bytes give is one list of events and one end.
use Rattle.std.proofs.Common.{◌≡◌, ℕ, List, [], ◌∷◌, refl, sym, ◌∙◌, ap, true}
use Rattle.pnp_labels.specs.declared.event.Event.{Event}
use Rattle.script_reader.specs.declared.line.Line.{Line}
use Rattle.script_reader.specs.declared.line.ScriptEnd.{ScriptEnd}
use Rattle.script_reader.specs.declared.line.ScriptEnd.TheVariants as script_ends
use Rattle.script_reader.specs.declared.line.Script.{Script}
use Rattle.script_reader.specs.Script.{Trace, gives, ends, stops, trace}
use Rattle.script_reader.specs.Reading.{give_all}
use Rattle.script_reader.specs.Whole.{end_of, trace_of}

abbrev made : ℕ → Event → Line
made n event = record { line = n; event = event }

first_line : (n m : ℕ) (e f : Event) (t u : Trace) → gives n e t ≡ gives m f u → made n e ≡ made m f
first_line n m e f t u h = let same_line : n ≡ m = cc in let same_event : e ≡ f = cc in ap (λ k. made k e) same_line ∙ ap (made m) same_event

later_lines : (n m : ℕ) (e f : Event) (t u : Trace) → gives n e t ≡ gives m f u → t ≡ u
later_lines n m e f t u h = cc

no_line : (end : ScriptEnd) (n : ℕ) (e : Event) (t : Trace) → end_of end ≡ gives n e t → ⊥
no_line script_ends.End n e t h = cc
no_line (script_ends.Bad line) n e t h = cc

same_end : (e f : ScriptEnd) → end_of e ≡ end_of f → e ≡ f
same_end script_ends.End script_ends.End h = refl
same_end script_ends.End (script_ends.Bad n) h = absurd (let x : ends ≡ stops n = h in cc)
same_end (script_ends.Bad n) script_ends.End h = absurd (let x : stops n ≡ ends = h in cc)
same_end (script_ends.Bad n) (script_ends.Bad m) h = let x : n ≡ m = cc in ap (λ k. script_ends.Bad k) x

same_lines : (xs ys : List Line) (e f : ScriptEnd) → give_all xs (end_of e) ≡ give_all ys (end_of f) → (xs ≡ ys) × (e ≡ f)
same_lines [] [] e f h = (refl, same_end e f h)
same_lines [] (y ∷ ys) e f h = absurd (no_line e y.line y.event (give_all ys (end_of f)) h)
same_lines (x ∷ xs) [] e f h = absurd (no_line f x.line x.event (give_all xs (end_of e)) (sym h))
same_lines (x ∷ xs) (y ∷ ys) e f h =
    let rest : (xs ≡ ys) × (e ≡ f) = same_lines xs ys e f (later_lines x.line y.line x.event y.event (give_all xs (end_of e)) (give_all ys (end_of f)) h) in
    (ap (λ l. l ∷ xs) (first_line x.line y.line x.event y.event (give_all xs (end_of e)) (give_all ys (end_of f)) h) ∙ ap (λ ls. y ∷ ls) rest.0, rest.1)

pub one_reading : (all : List ℕ) (s t : Script)
    → trace_of s ≡ trace true 0 all → trace_of t ≡ trace true 0 all → (s.lines.items ≡ t.lines.items) × (s.ends ≡ t.ends)
one_reading all s t is is_too = same_lines s.lines.items t.lines.items s.ends t.ends (is ∙ sym is_too)
