-- Changes that leave who is there and what is held.
use Rattle.std.proofs.Common.{◌≡◌, ℕ, Bool, List, [], ◌∷◌, map, Option, Some, None, refl, sym, ap, ◌∙◌, subst}
use Rattle.resource_reqs.specs.Resources.{Res, Reqs}
use Rattle.pnp_labels.specs.Texts.{Text}
use Rattle.pnp_labels.specs.declared.label.Label.{Label}
use Rattle.pnp_labels.specs.declared.words.Minor.{Minor}
use Rattle.pnp_labels.specs.declared.states.Problem.{Problem}
use Rattle.pnp_model.specs.Cores.{node_at, with_problem}
use Rattle.pnp_model.specs.Walks.{state_after}
use Rattle.pnp_model.specs.Rebalances.{committed}
use Rattle.pnp_model.specs.Records.{Node}
use Rattle.trial_journal.specs.ByKind.{Arbiters}
use Rattle.device_holdings.specs.Mirrors.{KeepsMirror}
use Rattle.devnode_tree.specs.Trees.{Tree, changed}
use Rattle.devnode_tree.specs.Identities.{identity, identities}
use Rattle.devnode_tree.proofs.Identities.{state_keeps, problem_keeps}
use Rattle.operation_frame.specs.Walks.{EndsFor}
use Rattle.operation_frame.proofs.Mirroring.{mirror_problem}
use Rattle.rebalance.specs.Parts.{StaysWhole}

pub stays : (t : Tree) → StaysWhole t t
stays t = record { next = refl; keeps = refl; mirrors = λ arbiters reserved m. m }

-- the end of a request
pub ends_whole : (t t' : Tree) (k : ℕ) (minor : Minor) (refused : Bool) (path : Text) (label : Label) → EndsFor (node_at k t.nodes) minor refused path t.nodes label t'.nodes → t'.next ≡ t.next
    → ((arbiters : Arbiters) → KeepsMirror t.nodes arbiters t'.nodes arbiters) → StaysWhole t t'
ends_whole t t' k minor refused path label ends next mirrors = record { next = next; keeps = by (node_at k t.nodes) ends; mirrors = mirrors }
  where
    by : (x : Option Node) → EndsFor x minor refused path t.nodes label t'.nodes → identities t'.nodes ≡ identities t.nodes
    by None e = absurd e
    by (Some node) e = ap identities e.1 ∙ state_keeps node.serial (state_after minor refused node.state) t.nodes

-- a problem
pub problem_whole : (t t' : Tree) (k : ℕ) (problem : Option Problem) → t' ≡ changed k (with_problem problem) t → StaysWhole t t'
problem_whole t t' k problem is = record {
  next = ap (λ (u : Tree). u.next) is;
  keeps = ap (λ (u : Tree). identities u.nodes) is ∙ problem_keeps k problem t.nodes;
  mirrors = λ arbiters. subst (λ (u : Tree). KeepsMirror t.nodes arbiters u.nodes arbiters) (sym is) (mirror_problem k t.nodes arbiters problem);
}

-- new holdings and requirements
pub commit_keeps : (wanted : Option Reqs) (target : ℕ) (serials : List ℕ) (plan : List (List Res)) (nodes : List Node) → identities (map (committed wanted target serials plan) nodes) ≡ identities nodes
commit_keeps wanted target serials plan [] = refl
commit_keeps wanted target serials plan (n ∷ ns) = ap (λ l. identity n ∷ l) (commit_keeps wanted target serials plan ns)
