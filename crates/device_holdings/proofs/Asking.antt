-- What movers ask for, one after another.
use Rattle.std.proofs.Common.{◌≡◌, ℕ, List, [], ◌∷◌, ◌++◌, Option, None, refl, ap}
use Rattle.std.proofs.lemmas.List.{map-append}
use Rattle.resource_reqs.specs.Resources.{Reqs}
use Rattle.pnp_model.specs.Cores.{node_at}
use Rattle.pnp_model.specs.Rebalances.{reqs_of, reqs_or}
use Rattle.pnp_model.specs.Records.{Node}
use Rattle.device_holdings.specs.Answers.{needs_of, asked_for}

-- where nothing is given each asks for what it needs
pub all_need : (nodes : List Node) (ks : List ℕ) → asked_for None nodes ks ≡ needs_of nodes ks
all_need nodes [] = refl
all_need nodes (k ∷ ks) = refl

-- what is given to the one after these
abbrev pub left_of : Option Reqs → List ℕ → Option Reqs
left_of first [] = first
left_of first (k ∷ ks) = None

pub one_asks : (first : Option Reqs) (nodes : List Node) (ks : List ℕ) (k : ℕ)
    → asked_for first nodes (ks ++ k ∷ []) ≡ asked_for first nodes ks ++ reqs_or (left_of first ks) (reqs_of (node_at k nodes)) ∷ []
one_asks first nodes [] k = refl
one_asks first nodes (j ∷ js) k = ap (λ l. reqs_or first (reqs_of (node_at j nodes)) ∷ l) (map-append (λ i. reqs_of (node_at i nodes)) js (k ∷ []))

pub none_left : (first : Option Reqs) (ks : List ℕ) (k : ℕ) → left_of first (ks ++ k ∷ []) ≡ None
none_left first [] k = refl
none_left first (j ∷ js) k = refl
