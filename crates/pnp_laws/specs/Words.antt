-- Words of operations, labels and activities that several laws share.
use Rattle.std.specs.Prelude.{ℕ, Bool, true, false, List, [], ◌∷◌}
use Rattle.pnp_model.specs.Records.{Activity, Phase, Job, Course, course_of}
use Rattle.pnp_model.specs.Records.Phase.{Due}
use Rattle.pnp_labels.specs.declared.states.Problem.{Problem}
use Rattle.pnp_labels.specs.declared.label.Label.{Label}
use Rattle.pnp_labels.specs.declared.label.OpEnd.{OpEnd}

-- Joins ------------------------------------------------------------------------------

-- no device joins
abbrev pub IsNoJoin : Label → Type 0
IsNoJoin (Label.Join k path) = ⊥
IsNoJoin _ = Unit {0}

abbrev pub joined : Label → ℕ
joined (Label.Join k path) = 1
joined _ = 0

-- Operations ---------------------------------------------------------------------------

abbrev pub is_removal : Course → Bool
is_removal Course.Removing = true
is_removal _ = false

-- who may hold something as long as the operation runs, though nothing else is to come of it: the target of a rebalance,
-- and those that a surprise removal takes
abbrev pub spared_in : Job → Course → List ℕ
spared_in j Course.Rebalancing = j.target ∷ []
spared_in j Course.Surprising = j.set
spared_in j _ = []

abbrev pub spared : Job → List ℕ
spared j = spared_in j (course_of j.kind)

-- it is not problem 12
abbrev pub NotTwelve : Problem → Type 0
NotTwelve Problem.NormalConflict = ⊥
NotTwelve _ = Unit {0}

-- no begin, no end and no problem 12
abbrev pub IsBeside : Label → Type 0
IsBeside (Label.Begin kind path) = ⊥
IsBeside (Label.End kind path result) = ⊥
IsBeside (Label.Trouble path problem) = NotTwelve problem
IsBeside _ = Unit {0}

-- a word of an event
abbrev pub IsWord : Label → Type 0
IsWord (Label.Did deed) = Unit {0}
IsWord (Label.Refused word reason) = Unit {0}
IsWord _ = ⊥

-- a rebalance and a surprise end without a veto
abbrev pub NoVeto : OpEnd → Type 0
NoVeto (OpEnd.Veto refuser) = ⊥
NoVeto _ = Unit {0}

abbrev pub EndsBy : Bool → OpEnd → Type 0
EndsBy true result = Unit {0}
EndsBy false result = NoVeto result

abbrev pub DueFine : Phase → Type 0
DueFine (Due problem) = NotTwelve problem
DueFine _ = Unit {0}

abbrev pub EachPhase : (Phase → Type 0) → List Activity → Type 0
EachPhase P [] = Unit {0}
EachPhase P (a ∷ activities) = P a.phase × EachPhase P activities

-- no activity owes problem 12
abbrev pub DuesFine : List Activity → Type 0
DuesFine activities = EachPhase DueFine activities
