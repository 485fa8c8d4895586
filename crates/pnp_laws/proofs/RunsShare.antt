-- In each state of a run no resources clash.
use Rattle.std.proofs.Common.{ℕ, ◌≡◌, List, [], ◌∷◌, Some, refl, sym, ap, subst}
use Rattle.resource_reqs.specs.Resources.{Res, NoClash}
use Rattle.pnp_model.specs.Cores.{node_at}
use Rattle.pnp_model.specs.Laws.{NothingClashesLaw}
use Rattle.pnp_model.specs.Records.{Node, Driver, State, Settings}
use Rattle.pnp_model.specs.Runs.{Entry, Goes, opening, printed, root_node}
use Rattle.pnp_model.specs.Sharing.{Clear}
use Rattle.pnp_laws.specs.Reached.{IsReached}
use Rattle.pnp_laws.proofs.EffectsOf.{effect_goes}
use Rattle.pnp_laws.proofs.PlansKept.{reached_is_planned}
use Rattle.pnp_laws.proofs.Reached.{reached_is_good}
use Rattle.pnp_laws.proofs.Reaching.{kept}
use Rattle.pnp_laws.proofs.Runs.{root_is}
use Rattle.pnp_laws.proofs.Sharing.{nothing_foreign}
use Rattle.pnp_laws.proofs.SharingEffects.{clear_ranges}

abbrev IsClear : State → Type 0
IsClear s = Clear s.core.reserved s.core.nodes

clear_goes : (settings : Settings) (rack : List Driver) (s : State) (entry : Entry) (t : State) → IsReached settings rack s → IsClear s → Goes settings s entry t → IsClear t
clear_goes settings rack s entry t reached clear goes =
    let effect = effect_goes settings s entry t goes in
    clear_ranges s (printed entry) (reached_is_good settings rack s reached).serials (reached_is_planned settings rack s reached) clear t effect.ranges effect.nodes

root_holds : (k : ℕ) (n : Node) → node_at k (root_node ∷ []) ≡ Some n → n.holds ≡ []
root_holds k n h = sym (ap (λ (x : Node). x.holds) (root_is k n h).0)

opening_is_clear : (rack : List Driver) → IsClear (opening rack)
opening_is_clear rack =
    record {
      own = λ k n h. subst (λ (x : List Res). NoClash x) (sym (root_holds k n h)) tt;
      two = λ j k n m d g h. nothing_foreign n.holds m.holds (root_holds j n g);
      taken = tt;
      beside = λ k n h. nothing_foreign [] n.holds refl;
    }

-- in each state of a run nothing clashes
pub nothing_clashes : NothingClashesLaw
nothing_clashes settings rack entries s run = kept IsClear settings rack (clear_goes settings rack) (opening_is_clear rack) s (entries, run)
