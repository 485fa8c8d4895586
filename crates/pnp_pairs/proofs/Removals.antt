-- Removals in order, surprise removals and finishes under other words.
use Rattle.std.proofs.Common.{ℕ, ◌≡◌, Bool, true, false, not, List, [], ◌∷◌, map, Option, Some, None, refl, ap, ap₂, ◌∙◌}
use Rattle.std.specs.Prelude.{option_map, ◌==◌, ◌&&◌, ◌||◌}
use Rattle.std.specs.List.{list_any}
use mathlib.Core.Path.{fun_ext}
use Rattle.pnp_labels.specs.Texts.{Text}
use Rattle.pnp_labels.specs.declared.label.Label.{Label}
use Rattle.pnp_labels.specs.declared.label.OpEnd.{OpEnd}
use Rattle.pnp_labels.specs.declared.label.OpKind.{OpKind}
use Rattle.pnp_labels.specs.declared.states.Problem.{Problem}
use Rattle.pnp_labels.specs.declared.words.Minor.{Minor}
use Rattle.pnp_model.specs.Cores.{core_of, drop_node, is_node, node_at, path_of, set_problem, stack_of}
use Rattle.pnp_model.specs.Finishes as finishes
use Rattle.pnp_model.specs.Finishes.{node_of_ready}
use Rattle.pnp_model.specs.Frames.{rest}
use Rattle.pnp_model.specs.Handles.{is_open, ready_device, was_told}
use Rattle.pnp_model.specs.Jobs.{Beside, JobMove, closes, job_of, moves, stands}
use Rattle.pnp_model.specs.Keyed.{those}
use Rattle.pnp_model.specs.Records.{Core, Handle, Job, Node, Stage}
use Rattle.pnp_model.specs.Records.Stage.{Next, Telling, Asking, TakingBack, Cancelling, Removing, Settling, Leaving, Holding, Ending}
use Rattle.pnp_model.specs.Removals as removals
use Rattle.pnp_model.specs.Removals.{is_ejecting, is_queried_node, refuses_unasked}
use Rattle.pnp_model.specs.Surprises as surprises
use Rattle.pnp_model.specs.Surprises.{is_told_node, stays_behind}
use Rattle.pnp_model.specs.Tests.{has, is_eject}
use Rattle.pnp_model.specs.Trees.{leaving}
use Rattle.pnp_model.specs.Walks.{walk_of}
use Rattle.pnp_pairs.specs.Renamed as renamed
use Rattle.pnp_pairs.specs.Renamed.{Renaming}
use Rattle.pnp_pairs.proofs.Asks.{changed_same}
use Rattle.pnp_pairs.proofs.Jobs.{asks_same, each_same, either_move, job_move, path_same, stack_same, walks_same}
use Rattle.pnp_pairs.proofs.Maps.{without_map}
use Rattle.pnp_pairs.proofs.Trees.{at, dependents_same, leaving_same, ready_same}

module _ (r : Renaming) where
  drop_same : (k : ℕ) (c : Core) → drop_node k (renamed.core r c) ≡ renamed.core r (drop_node k c)
  drop_same k c = ap (λ (ns : List Node). core_of ns c.relations (renamed.rack r c.rack) c.reserved) (without_map (renamed.node r) (is_node k) (is_node k) (λ n. refl) c.nodes)

  problem_same : (k : ℕ) (problem : Problem) (c : Core) → set_problem k (Some problem) (renamed.core r c) ≡ renamed.core r (set_problem k (Some problem) c)
  problem_same k problem c = changed_same r k _ _ c (λ m. refl)

  -- Removals in order ---------------------------------------------------------------

  finish_with_same : (j : Job) (todo stack : List ℕ) → removals.finish_with (renamed.job r j) todo stack ≡ renamed.job r (removals.finish_with j todo stack)
  finish_with_same j todo [] = refl
  finish_with_same j todo (d ∷ ds) = refl

  finish_on_same : (ns : List Node) (j : Job) (todo : List ℕ) → removals.finish_on (renamed.nodes r ns) (renamed.job r j) todo ≡ renamed.job r (removals.finish_on ns j todo)
  finish_on_same ns j [] = refl
  finish_on_same ns j (k ∷ ks) =
      ap (removals.finish_with (renamed.job r j) (k ∷ ks)) (ap stack_of (at r k ns) ∙ stack_same r (node_at k ns))
      ∙ finish_with_same j (k ∷ ks) (stack_of (node_at k ns))

  ask_on_same : (ns : List Node) (j : Job) (todo : List ℕ) → removals.ask_on (renamed.nodes r ns) (renamed.job r j) todo ≡ renamed.job r (removals.ask_on ns j todo)
  ask_on_same ns j [] = finish_on_same ns j j.set
  ask_on_same ns j (k ∷ ks) = refl

  cancel_same : (j : Job) (todo : List ℕ) → removals.cancel_on (renamed.job r j) todo ≡ renamed.job r (removals.cancel_on j todo)
  cancel_same j todo = each_same r Minor.CancelRemove Cancelling j todo (stands j [] Ending)

  queried_same : (o : Option Node) → is_queried_node (option_map (renamed.node r) o) ≡ is_queried_node o
  queried_same None = refl
  queried_same (Some n) = refl

  begun_with_same : (c : Core) (kind : OpKind) (n : Node) (set : List ℕ) → removals.begun_with (renamed.core r c) kind (renamed.node r n) set ≡ renamed.job r (removals.begun_with c kind n set)
  begun_with_same c kind n set =
      let j : Job = record (job_of kind n) { set = set; ejecting = map (λ x. x.member) (those (is_ejecting set) c.relations) } in
      ap (λ (f : ℕ → Bool). removals.ask_on (renamed.nodes r c.nodes) (renamed.job r j) (those f set)) (fun_ext (λ k. ap is_queried_node (at r k c.nodes) ∙ queried_same (node_at k c.nodes)))
      ∙ ask_on_same c.nodes j (those (λ k. is_queried_node (node_at k c.nodes)) set)

  pub removal_begun : (c : Core) (kind : OpKind) (n : Node) → removals.begun_removal (renamed.core r c) kind (renamed.node r n) ≡ renamed.job r (removals.begun_removal c kind n)
  removal_begun c kind n = ap (removals.begun_with (renamed.core r c) kind (renamed.node r n)) (leaving_same r c n.serial) ∙ begun_with_same c kind n (leaving c n.serial)

  answers_same : (c : Core) (j : Job) (n : Node) (bad : Bool) → removals.answers (renamed.core r c) (renamed.job r j) (renamed.node r n) bad ≡ renamed.job r (removals.answers c j n bad)
  answers_same c j n true = refl
  answers_same c j n false = ask_on_same c.nodes (record j { agreed = n.serial ∷ j.agreed }) (rest j.todo)

  pub removal_after : (c : Core) (j : Job) (n : Node) (bad : Bool) (stage : Stage) → removals.after_end (renamed.core r c) (renamed.job r j) (renamed.node r n) bad stage ≡ option_map (renamed.job r) (removals.after_end c j n bad stage)
  removal_after c j n bad Asking = ap (λ (x : Job). Some x) (answers_same c j n bad)
  removal_after c j n bad TakingBack = ap (λ (x : Job). Some x) (cancel_same j j.agreed)
  removal_after c j n bad Cancelling = ap (λ (x : Job). Some x) (cancel_same j (rest j.todo))
  removal_after c j n bad Removing = refl
  removal_after c j n bad _ = refl

  query_same : (c : Core) (j : Job) (n : Node) (refuses : Bool) → removals.query (renamed.core r c) (renamed.job r j) (renamed.node r n) refuses ≡ option_map (job_move r) (removals.query c j n refuses)
  query_same c j n true =
      ap (λ (x : Job). Some (moves (Label.Handles (r.path n.path)) (renamed.core r c) x)) (cancel_same (record j { refused = n.serial ∷ j.refused }) j.agreed)
  query_same c j n false =
      ap (λ (x : Job). Rattle.pnp_model.specs.Jobs.walks (renamed.core r c) (renamed.job r (removals.queried j)) (renamed.node r n) (walk_of Minor.QueryRemove) (Some x)) (answers_same c (removals.queried j) n false)
      ∙ walks_same r c (removals.queried j) n (walk_of Minor.QueryRemove) (Some (removals.answers c (removals.queried j) n false))

  remains_same : (c : Core) (j : Job) (n : Node) (problem : Problem) (beside other : Beside) → other ≡ Rattle.pnp_pairs.proofs.Jobs.beside r beside
      → removals.remains (renamed.core r c) (renamed.job r j) (renamed.node r n) problem other ≡ job_move r (removals.remains c j n problem beside)
  remains_same c j n problem beside other e =
      ap₂ (λ (x : Core) (k : Job). record { label = Label.Trouble (r.path n.path) problem; core = x; frame = k; beside = other }) (problem_same n.serial problem c) (finish_on_same c.nodes j (rest j.todo))
      ∙ ap (λ (b : Beside). record { label = Label.Trouble (r.path n.path) problem; core = renamed.core r (set_problem n.serial (Some problem) c); frame = renamed.job r (removals.finish_on c.nodes j (rest j.todo)); beside = b }) e

  leaves_same : (c : Core) (j : Job) (n : Node) (label : Label) (beside : Beside)
      → removals.leaves (renamed.core r c) (renamed.job r j) (renamed.node r n) (renamed.label r label) (Rattle.pnp_pairs.proofs.Jobs.beside r beside) ≡ job_move r (removals.leaves c j n label beside)
  leaves_same c j n label beside =
      ap₂ (λ (x : Core) (k : Job). record { label = renamed.label r label; core = x; frame = k; beside = Rattle.pnp_pairs.proofs.Jobs.beside r beside }) (drop_same n.serial c) (finish_on_same c.nodes j (rest j.todo))

  settle_same : (c : Core) (j : Job) (n : Node) → removals.settle (renamed.core r c) (renamed.job r j) (renamed.node r n) ≡ job_move r (removals.settle c j n)
  settle_same c j n =
      either_move r (has j.set n.parent) _ _ _ _ (leaves_same c j n (Label.Leave n.path) (Beside.Left n.path n.born))
      (either_move r (n.serial == j.target) _ _ _ _
      (either_move r (is_eject j.kind) _ _ _ _ (leaves_same c j n (Label.Ejected n.path) (Beside.Ejected n.path n.born)) (remains_same c j n Problem.Disabled (Beside.Disabled n.path) _ refl))
      (either_move r (is_eject j.kind && has j.ejecting n.serial) _ _ _ _ (remains_same c j n Problem.HeldForEject Beside.On _ refl) (remains_same c j n Problem.Held Beside.On _ refl)))

  end_same : (c : Core) (refused : List ℕ) → removals.end_of (renamed.core r c) refused ≡ renamed.op_end r (removals.end_of c refused)
  end_same c [] = refl
  end_same c (k ∷ ks) = ap (λ (path : Text). OpEnd.Veto path) (ap path_of (at r k c.nodes) ∙ path_same r (node_at k c.nodes))

  close_same : (c : Core) (j : Job) → removals.close (renamed.core r c) (renamed.job r j) ≡ job_move r (removals.close c j)
  close_same c j = ap (λ (x : OpEnd). closes (renamed.core r c) (renamed.job r j) x Beside.Over) (end_same c j.refused)

  pub removal_acts : (c : Core) (j : Job) (handles : List Handle) (stage : Stage) (o : Option Node) → removals.acts (renamed.core r c) (renamed.job r j) handles stage (option_map (renamed.node r) o) ≡ option_map (job_move r) (removals.acts c j handles stage o)
  removal_acts c j handles Ending o = ap (λ (m : JobMove). Some m) (close_same c j)
  removal_acts c j handles Next (Some n) = query_same c j n (refuses_unasked handles n)
  removal_acts c j handles Next None = refl
  removal_acts c j handles Settling (Some n) = ap (λ (m : JobMove). Some m) (settle_same c j n)
  removal_acts c j handles Settling None = refl
  removal_acts c j handles _ o = refl

  -- Surprise removals ---------------------------------------------------------------

  gone_on_same : (j : Job) (todo : List ℕ) → surprises.finish_on (renamed.job r j) todo ≡ renamed.job r (surprises.finish_on j todo)
  gone_on_same j [] = refl
  gone_on_same j (k ∷ ks) = refl

  tell_same : (j : Job) (todo : List ℕ) → surprises.tell_on (renamed.job r j) todo ≡ renamed.job r (surprises.tell_on j todo)
  tell_same j todo =
      ap (Rattle.pnp_model.specs.Jobs.each_gets Minor.SurpriseRemoval Telling (renamed.job r j) todo) (gone_on_same j j.set)
      ∙ each_same r Minor.SurpriseRemoval Telling j todo (surprises.finish_on j j.set)

  told_same : (o : Option Node) → is_told_node (option_map (renamed.node r) o) ≡ is_told_node o
  told_same None = refl
  told_same (Some n) = refl

  was_told_same : (o : Option Node) → was_told (option_map (renamed.node r) o) ≡ was_told o
  was_told_same None = refl
  was_told_same (Some n) = refl

  gone_with_same : (c : Core) (n : Node) (set : List ℕ) → surprises.begun_with (renamed.core r c) (renamed.node r n) set ≡ renamed.job r (surprises.begun_with c n set)
  gone_with_same c n set =
      ap₂ (λ (f g : ℕ → Bool). surprises.tell_on (record (job_of OpKind.Surprise (renamed.node r n)) { set = set; told = those f set }) (those g set))
      (fun_ext (λ k. ap was_told (at r k c.nodes) ∙ was_told_same (node_at k c.nodes)))
      (fun_ext (λ k. ap is_told_node (at r k c.nodes) ∙ told_same (node_at k c.nodes)))
      ∙ tell_same (record (job_of OpKind.Surprise n) { set = set; told = those (λ k. was_told (node_at k c.nodes)) set }) (those (λ k. is_told_node (node_at k c.nodes)) set)

  pub surprise_begun : (c : Core) (n : Node) → surprises.begun_surprise (renamed.core r c) (renamed.node r n) ≡ renamed.job r (surprises.begun_surprise c n)
  surprise_begun c n = ap (surprises.begun_with (renamed.core r c) (renamed.node r n)) (leaving_same r c n.serial) ∙ gone_with_same c n (leaving c n.serial)

  pub surprise_after : (j : Job) (stage : Stage) → surprises.after_end (renamed.job r j) stage ≡ option_map (renamed.job r) (surprises.after_end j stage)
  surprise_after j Telling = ap (λ (x : Job). Some x) (tell_same j (rest j.todo))
  surprise_after j Removing = refl
  surprise_after j _ = refl

  gone_end : (behind : List ℕ) → surprises.end_of behind ≡ renamed.op_end r (surprises.end_of behind)
  gone_end [] = refl
  gone_end (k ∷ ks) = refl

  gone_close : (c : Core) (j : Job) → surprises.close (renamed.core r c) (renamed.job r j) ≡ job_move r (surprises.close c j)
  gone_close c j = ap (λ (x : OpEnd). closes (renamed.core r c) (renamed.job r j) x Beside.Over) (gone_end j.behind)

  gone_leaves : (c : Core) (j : Job) (n : Node) → surprises.leaves (renamed.core r c) (renamed.job r j) (renamed.node r n) ≡ job_move r (surprises.leaves c j n)
  gone_leaves c j n =
      ap₂ (λ (x : Core) (k : Job). record { label = Label.Leave (r.path n.path); core = x; frame = k; beside = Beside.Left (r.path n.path) n.born }) (drop_same n.serial c) (gone_on_same j (rest j.todo))

  gone_settle : (c : Core) (j : Job) (n : Node) (in_world : Bool) → surprises.settle (renamed.core r c) (renamed.job r j) (renamed.node r n) in_world ≡ job_move r (surprises.settle c j n in_world)
  gone_settle c j n in_world =
      either_move r (n.serial == j.target) _ _ _ _ (either_move r in_world _ _ _ _ (gone_close c j) (gone_leaves c j n))
      (either_move r (has j.set n.parent) _ _ _ _ (gone_leaves c j n)
      (ap₂ (λ (x : Core) (k : Job). moves (Label.Trouble (r.path n.path) Problem.Held) x k) (problem_same n.serial Problem.Held c) (gone_on_same j (rest j.todo))))

  stays_same : (c : Core) (j : Job) (handles : List Handle) (k : ℕ) → stays_behind (renamed.core r c) (renamed.job r j) handles k ≡ stays_behind c j handles k
  stays_same c j handles k = ap (λ (ks : List ℕ). has j.told k || (is_open handles k || list_any (λ i. has j.behind i) ks)) (dependents_same r c k)

  gone_with : (c : Core) (j : Job) (n : Node) (in_world : Bool) (stack : List ℕ) → surprises.finish_with (renamed.core r c) (renamed.job r j) (renamed.node r n) in_world stack ≡ job_move r (surprises.finish_with c j n in_world stack)
  gone_with c j n in_world [] = gone_settle c (stands j j.todo Settling) n in_world
  gone_with c j n in_world (d ∷ ds) = asks_same r c (surprises.removing j) n (walk_of Minor.Remove)

  gone_next : (c : Core) (j : Job) (n : Node) (in_world stays : Bool) → surprises.finish (renamed.core r c) (renamed.job r j) (renamed.node r n) in_world stays ≡ job_move r (surprises.finish c j n in_world stays)
  gone_next c j n in_world true = ap (λ (k : Job). moves (Label.Waits (r.path n.path)) (renamed.core r c) k) (gone_on_same (record j { behind = n.serial ∷ j.behind }) (rest j.todo))
  gone_next c j n in_world false = gone_with c j n in_world n.stack

  pub surprise_acts : (c : Core) (j : Job) (in_world : Bool) (handles : List Handle) (stage : Stage) (o : Option Node) → surprises.acts (renamed.core r c) (renamed.job r j) in_world handles stage (option_map (renamed.node r) o) ≡ option_map (job_move r) (surprises.acts c j in_world handles stage o)
  surprise_acts c j in_world handles Ending o = ap (λ (m : JobMove). Some m) (gone_close c j)
  surprise_acts c j in_world handles Next (Some n) =
      ap (λ (b : Bool). Some (surprises.finish (renamed.core r c) (renamed.job r j) (renamed.node r n) in_world b)) (stays_same c j handles n.serial)
      ∙ ap (λ (m : JobMove). Some m) (gone_next c j n in_world (stays_behind c j handles n.serial))
  surprise_acts c j in_world handles Next None = refl
  surprise_acts c j in_world handles Settling (Some n) = ap (λ (m : JobMove). Some m) (gone_settle c j n in_world)
  surprise_acts c j in_world handles Settling None = refl
  surprise_acts c j in_world handles _ o = refl

  -- Finishes ------------------------------------------------------------------------

  settle_on_same : (j : Job) (b : Bool) (problem : Option Problem) → finishes.settle_on (renamed.job r j) b problem ≡ renamed.job r (finishes.settle_on j b problem)
  settle_on_same j true problem = refl
  settle_on_same j false (Some problem) = refl
  settle_on_same j false None = refl

  pub finish_after : (c : Core) (j : Job) (n : Node) (in_world : Bool) (stage : Stage) → finishes.after_end (renamed.core r c) (renamed.job r j) (renamed.node r n) in_world stage ≡ option_map (renamed.job r) (finishes.after_end c j n in_world stage)
  finish_after c j n in_world Removing =
      ap (λ (b : Bool). Some (finishes.settle_on (renamed.job r j) (b || not in_world) n.problem)) (ap was_told (at r n.parent c.nodes) ∙ was_told_same (node_at n.parent c.nodes))
      ∙ ap (λ (k : Job). Some k) (settle_on_same j (was_told (node_at n.parent c.nodes) || not in_world) n.problem)
  finish_after c j n in_world _ = refl

  take_same : (c : Core) (j : Job) (o : Option Node) → finishes.take (renamed.core r c) (renamed.job r j) (option_map (renamed.node r) o) ≡ job_move r (finishes.take c j o)
  take_same c j None = refl
  take_same c j (Some n) = asks_same r c (finishes.taken j n) n (walk_of Minor.Remove)

  ready_node : (ns : List Node) (o : Option ℕ) → node_of_ready (renamed.nodes r ns) o ≡ option_map (renamed.node r) (node_of_ready ns o)
  ready_node ns None = refl
  ready_node ns (Some k) = at r k ns

  pub finish_acts : (c : Core) (j : Job) (handles : List Handle) (stage : Stage) (o : Option Node) → finishes.acts (renamed.core r c) (renamed.job r j) handles stage (option_map (renamed.node r) o) ≡ option_map (job_move r) (finishes.acts c j handles stage o)
  finish_acts c j handles Next o =
      ap (λ (k : Option ℕ). Some (finishes.take (renamed.core r c) (renamed.job r j) (node_of_ready (renamed.nodes r c.nodes) k))) (ready_same r c handles)
      ∙ ap (λ (n : Option Node). Some (finishes.take (renamed.core r c) (renamed.job r j) n)) (ready_node c.nodes (ready_device c handles))
      ∙ ap (λ (m : JobMove). Some m) (take_same c j (node_of_ready c.nodes (ready_device c handles)))
  finish_acts c j handles Leaving (Some n) =
      ap (λ (x : Core). Some (record { label = Label.Leave (r.path n.path); core = x; frame = renamed.job r (finishes.next_on j); beside = Beside.Left (r.path n.path) n.born })) (drop_same n.serial c)
  finish_acts c j handles Leaving None = refl
  finish_acts c j handles Holding (Some n) =
      ap (λ (x : Core). Some (moves (Label.Trouble (r.path n.path) Problem.Held) x (renamed.job r (finishes.next_on j)))) (problem_same n.serial Problem.Held c)
  finish_acts c j handles Holding None = refl
  finish_acts c j handles _ o = refl
