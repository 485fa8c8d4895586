-- What the operations share, under other words: requests, and how an operation stands after one.
use Rattle.std.proofs.Common.{ℕ, ◌≡◌, Bool, true, false, List, [], ◌∷◌, length, Option, Some, None, refl, sym, ap, if◌then◌else◌}
use Rattle.std.specs.Prelude.{option_map}
use Rattle.pnp_labels.specs.declared.words.Minor.{Minor}
use Rattle.pnp_model.specs.Cores.{path_of, stack_of}
use Rattle.pnp_model.specs.Frames.{asked, state_label}
use Rattle.pnp_model.specs.Jobs as jobs
use Rattle.pnp_model.specs.Jobs.{Beside, JobMove, each_gets, moves, walks}
use Rattle.pnp_model.specs.Records.{Core, Job, Node, Stage, Walk, doing_map}
use Rattle.pnp_model.specs.Records.Doing.{Does}
use Rattle.pnp_model.specs.Walks.{has_ended, is_bad}
use Rattle.pnp_pairs.specs.Renamed as renamed
use Rattle.pnp_pairs.specs.Renamed.{Renaming}
use Rattle.pnp_pairs.proofs.Asks.{ask_same, ended_same}

-- what the machine has to do beside a move, under the new words
abbrev pub beside : Renaming → Beside → Beside
beside r (Beside.Left path born) = Beside.Left (r.path path) born
beside r (Beside.Disabled path) = Beside.Disabled (r.path path)
beside r (Beside.Ejected path born) = Beside.Ejected (r.path path) born
beside r Beside.On = Beside.On
beside r (Beside.FailedRestart serial) = Beside.FailedRestart serial
beside r Beside.Over = Beside.Over
beside r Beside.OverStart = Beside.OverStart
beside r Beside.OverUndo = Beside.OverUndo

-- and a move of an operation
abbrev pub job_move : Renaming → JobMove → JobMove
job_move r m = record { label = renamed.label r m.label; core = renamed.core r m.core; frame = renamed.job r m.frame; beside = beside r m.beside }

-- moves that are there or not, as what is done
pub does_map : {A : Type 0} (f : A → A) (o : Option A) → option_map (λ m. Does m) (option_map f o) ≡ option_map (doing_map f) (option_map (λ m. Does m) o)
does_map f None = refl
does_map f (Some m) = refl

module _ (r : Renaming) where
  pub either_job : (b : Bool) (x y v w : Job) → v ≡ renamed.job r x → w ≡ renamed.job r y → (if b then v else w) ≡ renamed.job r (if b then x else y)
  either_job true x y v w e h = e
  either_job false x y v w e h = h

  pub either_move : (b : Bool) (x y v w : JobMove) → v ≡ job_move r x → w ≡ job_move r y → (if b then v else w) ≡ job_move r (if b then x else y)
  either_move true x y v w e h = e
  either_move false x y v w e h = h

  pub each_same : (minor : Minor) (stage : Stage) (j : Job) (todo : List ℕ) (over : Job) → each_gets minor stage (renamed.job r j) todo (renamed.job r over) ≡ renamed.job r (each_gets minor stage j todo over)
  each_same minor stage j [] over = refl
  each_same minor stage j (k ∷ ks) over = refl

  ends_same : (c : Core) (n : Node) (w : Walk) (next : Job) → jobs.ends (renamed.core r c) (renamed.node r n) w (renamed.job r next) ≡ job_move r (jobs.ends c n w next)
  ends_same c n w next = ap (λ (x : Core). moves (state_label (renamed.node r n) w.minor (is_bad w)) x (renamed.job r next)) (ended_same r c n w.minor (is_bad w))

  pub asks_same : (c : Core) (j : Job) (n : Node) (w : Walk) → jobs.asks (renamed.job r j) (asked (renamed.core r c) (renamed.node r n) w) ≡ job_move r (jobs.asks j (asked c n w))
  asks_same c j n w = ap (jobs.asks (renamed.job r j)) (ask_same r c n w)

  -- a request that is on its way
  pub walks_same : (c : Core) (j : Job) (n : Node) (w : Walk) (next : Option Job)
      → walks (renamed.core r c) (renamed.job r j) (renamed.node r n) w (option_map (renamed.job r) next) ≡ option_map (job_move r) (walks c j n w next)
  walks_same c j n w next = by_end (has_ended w (length n.stack)) next
    where
      by_end : (over : Bool) (next : Option Job) → (if over then option_map (jobs.ends (renamed.core r c) (renamed.node r n) w) (option_map (renamed.job r) next) else Some (jobs.asks (renamed.job r j) (asked (renamed.core r c) (renamed.node r n) w)))
          ≡ option_map (job_move r) (if over then option_map (jobs.ends c n w) next else Some (jobs.asks j (asked c n w)))
      by_end true None = refl
      by_end true (Some next) = ap (λ (m : JobMove). Some m) (ends_same c n w next)
      by_end false next = ap (λ (m : JobMove). Some m) (asks_same c j n w)

  -- what is told of a node that may not be there
  pub stack_same : (o : Option Node) → stack_of (option_map (renamed.node r) o) ≡ stack_of o
  stack_same None = refl
  stack_same (Some n) = refl

  pub path_same : (o : Option Node) → path_of (option_map (renamed.node r) o) ≡ r.path (path_of o)
  path_same None = sym r.no_path
  path_same (Some n) = refl
