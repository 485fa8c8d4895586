-- What is still to be done until a script stands there.
use Rattle.std.specs.Prelude.{ℕ, suc, ◌+◌, ◌-◌, ◌^◌, ◌<◌, ◌≤◌, ◌≡◌, List, [], ◌∷◌, ◌++◌, length, get_or, take, drop}
use Rattle.script_family.specs.declared.making.Task.{Task}
use Rattle.script_family.specs.declared.making.Task.TheVariants as tasks
use Rattle.script_family.specs.Families.{Script, patterns, woven}
use Rattle.script_family.specs.Counts.{ways}
use Rattle.script_family.specs.Parts.{script_at}
use Rattle.script_family.specs.Steps.{Shapes, shape, size, Has}

-- the last n lines, of which k are the first script's, woven in way p
abbrev pub rewoven : ℕ → ℕ → ℕ → Script → Script
rewoven n k p out =
    let base = length out - n in
    take base out ++ woven (get_or (patterns n k) p []) (take k (drop base out)) (drop k (drop base out))

-- these tasks, the first of them first, make this script of what stands there
abbrev pub Leads : Shapes → List Task → Script → Script → Type 0
Leads s [] out script = out ≡ script
Leads s (tasks.Make part lines number ∷ more) out script = Has s part lines number × Leads s more (out ++ script_at (shape s part) lines number) script
Leads s (tasks.Weave lines first way ∷ more) out script =
    (first ≤ lines) × (lines ≤ length out) × (way < ways lines first) × (way < 2 ^ 64 - 1) × (lines < s.rows) × Leads s more (rewoven lines first way out) script

-- how much is to be done
abbrev pub load : Shapes → List Task → ℕ
load s [] = 0
load s (tasks.Make part lines number ∷ more) = size (shape s part) + load s more
load s (tasks.Weave lines first way ∷ more) = suc (load s more)
