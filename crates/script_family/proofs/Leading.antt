-- The tasks of a script, one step on.
use Rattle.std.proofs.Common.{◌≡◌, sym, ◌∙◌, ap, subst, ℕ, suc, ◌+◌, ◌-◌, ◌<◌, ◌≤◌, arith, length, length-append, List, [], ◌∷◌, ◌++◌, append_assoc, append-nil}
use Rattle.script_family.specs.declared.making.Task.{Task}
use Rattle.script_family.specs.declared.making.Task.TheVariants as tasks
use Rattle.script_family.specs.declared.pairs.Place.{Place}
use Rattle.script_family.specs.declared.parts.Step.TheVariants as steps
use Rattle.script_family.specs.Families.{Family, Silent, Says, Followed, Chosen, Woven, Script}
use Rattle.script_family.specs.Parts.{script_at}
use Rattle.script_family.specs.Steps.{Shapes, shape, size, Has, Begins}
use Rattle.script_family.specs.Tasks.{Leads, load, rewoven}
use Rattle.script_family.proofs.Interleaving.{length_at, rewoven_is}

-- the tasks new, and what stands there, make each script that the tasks old make of that with this script behind it
abbrev pub GoesOn : Shapes → List Task → Script → Script → List Task → Script → Type 0
GoesOn s old out made new out' = (script : Script) → Leads s old (out ++ made) script → Leads s new out' script

pub nothing_more : (s : Shapes) (old : List Task) (out made : Script) → made ≡ [] → GoesOn s old out made old out
nothing_more s old out made is script leads = subst (λ v. Leads s old v script) (ap (λ v. out ++ v) is ∙ append-nil out) leads

pub line_more : (s : Shapes) (old : List Task) (out out' made : Script) (at : ℕ) → made ≡ at ∷ [] → out' ≡ out ++ at ∷ [] → GoesOn s old out made old out'
line_more s old out out' made at is more script leads = subst (λ v. Leads s old v script) (ap (λ v. out ++ v) is ∙ sym more) leads

pub one_more : (s : Shapes) (old new : List Task) (out made : Script) (part n r : ℕ) → new ≡ tasks.Make part n r ∷ old → Has s part n r → made ≡ script_at (shape s part) n r
    → GoesOn s old out made new out
one_more s old new out made part n r is has same script leads =
    subst (λ ts. Leads s ts out script) (sym is) (has, subst (λ v. Leads s old (out ++ v) script) same leads)

pub both_more : (s : Shapes) (old new : List Task) (out made : Script) (part n r first second : ℕ) (place : Place)
    → new ≡ tasks.Make first place.lines place.first ∷ (tasks.Make second (n - place.lines) place.second ∷ old) → Begins s part n r (steps.Both first second place)
    → made ≡ script_at (shape s part) n r → GoesOn s old out made new out
both_more s old new out made part n r first second place is begins made_is script leads =
    let x : Script = script_at (shape s first) place.lines place.first in
    let y : Script = script_at (shape s second) (n - place.lines) place.second in
    subst (λ ts. Leads s ts out script) (sym is) (
      begins.0.first_has,
      (
        begins.0.second_has,
        subst (λ v. Leads s old v script) (ap (λ v. out ++ v) (made_is ∙ begins.1) ∙ sym (append_assoc out x y)) leads,
      ),
    )

pub woven_more : (s : Shapes) (old new : List Task) (out made : Script) (part n r first second : ℕ) (place : Place)
    → new ≡ tasks.Make first place.lines place.first ∷ (tasks.Make second (n - place.lines) place.second ∷ (tasks.Weave n place.lines place.way ∷ old))
    → Begins s part n r (steps.Woven first second place) → made ≡ script_at (shape s part) n r → GoesOn s old out made new out
woven_more s old new out made part n r first second place is begins made_is script leads =
    let x : Script = script_at (shape s first) place.lines place.first in
    let y : Script = script_at (shape s second) (n - place.lines) place.second in
    let lx : length x ≡ place.lines = length_at (shape s first) place.lines place.first begins.0.first_has.below in
    let ly : length y ≡ n - place.lines = length_at (shape s second) (n - place.lines) place.second begins.0.second_has.below in
    let enough : n ≤ length (out ++ x ++ y) = omega (arith, length-append (out ++ x) y, length-append out x, begins.0.inside) in
    let woven_is : rewoven n place.lines place.way (out ++ x ++ y) ≡ out ++ made =
    rewoven_is n place.lines place.way out x y begins.0.inside lx ly ∙ ap (λ v. out ++ v) (sym (made_is ∙ begins.4)) in
    subst (λ ts. Leads s ts out script) (sym is) (
      begins.0.first_has,
      (
        begins.0.second_has,
        (begins.0.inside, enough, begins.1, begins.2, begins.3, subst (λ v. Leads s old v script) (sym woven_is) leads),
      ),
    )

-- what is to be done becomes less ------------------------------------------------------------------

sized : (f : Family) → 0 < size f
sized Silent = omega arith
sized (Says line) = omega arith
sized (Followed a b) = omega arith
sized (Chosen a b) = omega arith
sized (Woven a b) = omega arith

pub less_nothing : (s : Shapes) (part : ℕ) (old : List Task) → load s old < size (shape s part) + load s old
less_nothing s part old = omega (arith, sized (shape s part))

pub less_one : (s : Shapes) (part other n r : ℕ) (old new : List Task) → new ≡ tasks.Make other n r ∷ old → size (shape s other) < size (shape s part)
    → load s new < size (shape s part) + load s old
less_one s part other n r old new is lt = let e : load s new ≡ size (shape s other) + load s old = ap (load s) is in omega arith

pub less_both : (s : Shapes) (part n first second : ℕ) (place : Place) (old new : List Task)
    → new ≡ tasks.Make first place.lines place.first ∷ (tasks.Make second (n - place.lines) place.second ∷ old)
    → size (shape s first) + size (shape s second) < size (shape s part) → load s new < size (shape s part) + load s old
less_both s part n first second place old new is lt =
    let e : load s new ≡ size (shape s first) + (size (shape s second) + load s old) = ap (load s) is in omega arith

pub less_woven : (s : Shapes) (part n first second : ℕ) (place : Place) (old new : List Task)
    → new ≡ tasks.Make first place.lines place.first ∷ (tasks.Make second (n - place.lines) place.second ∷ (tasks.Weave n place.lines place.way ∷ old))
    → suc (size (shape s first) + size (shape s second)) < size (shape s part) → load s new < size (shape s part) + load s old
less_woven s part n first second place old new is lt =
    let e : load s new ≡ size (shape s first) + (size (shape s second) + suc (load s old)) = ap (load s) is in omega arith
