-- In each run problem 12 comes only where nothing fits the device and all that can move.
use Rattle.std.proofs.Common.{ℕ, ◌≡◌, ◌≢◌, ◌==◌, ◌⊎◌, inl, inr, true, false, List, [], ◌∷◌, ◌++◌, map, Some, None, refl, sym, ap, ◌∙◌, subst, arith}
use Rattle.std.proofs.lemmas.Bool.Decides.{nat_tests}
use Rattle.resource_reqs.specs.Resources.{Res, Reqs, Fits}
use Rattle.resource_reqs.specs.Spelling.Answer.{assignment, no_fit, spent}
use Rattle.pnp_model.specs.Keyed.{those}
use Rattle.pnp_model.specs.Records.{Node, Core, Driver, State, Step, Settings, Found, Job, Stage}
use Rattle.pnp_model.specs.Cores.{node_at}
use Rattle.pnp_model.specs.Tests.{has, is_started}
use Rattle.pnp_model.specs.Trees.{above}
use Rattle.pnp_model.specs.Frames.{held_by, is_beside, fixed_beside}
use Rattle.pnp_model.specs.Rebalances.{is_asked, reqs_of, trouble_of}
use Rattle.pnp_model.specs.Runs.{Entry, Goes, Run}
use Rattle.pnp_model.specs.Runs.Entry.{Did}
use Rattle.pnp_model.specs.Laws.{Reaches, AllWithin, Refuses, RefusedSince, StaysSince, AreFree, NothingFits, ConflictsAreRealLaw}
use Rattle.pnp_labels.specs.Texts.{Text}
use Rattle.pnp_labels.specs.declared.states.Problem.{Problem}
use Rattle.pnp_labels.specs.declared.states.DevState.TheVariants.{Started}
use Rattle.pnp_labels.specs.declared.label.Label.{Label}
use Rattle.pnp_labels.specs.declared.label.OpKind.{OpKind}
use Rattle.pnp_laws.specs.Words.{IsBeside}
use Rattle.pnp_laws.specs.Holdings.{has_plan}
use Rattle.pnp_laws.specs.Listed.{AreFreeBy, CanMoveBy, EachConflictIsListedLaw}
use Rattle.pnp_laws.specs.Rebalanced.{Undone, AskedSince, Asks, IsAskedAt, StaysOut, Underway}
use Rattle.pnp_laws.proofs.Lookups.{own_serial}
use Rattle.pnp_laws.proofs.Standing.{Tree}
use Rattle.pnp_laws.proofs.Reached.{reached_is_good, reached_tree}
use Rattle.pnp_laws.proofs.RebalanceMoves.{NoConflict}
use Rattle.pnp_laws.proofs.RebalanceRuns.{Stepped, IsOver, rebalance_stepped, refusing, lasts}
use Rattle.pnp_laws.specs.Begun.{HasBegun, Belongs, EachConflictIsRealLaw}
use Rattle.pnp_laws.proofs.BeginSteps.{step_did}
use Rattle.pnp_laws.proofs.RunsBegun.{operations_begin}
use Rattle.pnp_laws.proofs.Reaching.{reached_after}
use Rattle.pnp_laws.proofs.RunsFutile.{Since, since_rebalance, plain_since}
use Rattle.pnp_laws.proofs.Ascents.{has_from_contains, contains_from_has, rising_from_increasing, increasing_from_rising, same_ascent}
use Rattle.pnp_laws.proofs.RebalanceSteps.{asked_up}

-- The step that prints problem 12 -----------------------------------------------------------

-- it is the one of a stuck rebalance that found no fit
pub record IsStuck (path : Text) (r : Job) : Type 0 where
  pub stage : r.stage ≡ Stage.Stuck
  pub device : path ≡ r.path
  pub trouble : Problem.NormalConflict ≡ trouble_of r.found

stuck_move : (s : State) (r : Job) (path : Text) (t : State) (label : Label) → label ≡ Label.Trouble path Problem.NormalConflict → (NoConflict label ⊎ ((r.stage ≡ Stage.Stuck) × (label ≡ Label.Trouble r.path (trouble_of r.found)))) → IsStuck path r
stuck_move s r path t label e (inl none) = absurd (subst (λ (x : Label). NoConflict x) e none)
stuck_move s r path t label e (inr (stage, is)) =
    let both : Label.Trouble path Problem.NormalConflict ≡ Label.Trouble r.path (trouble_of r.found) = sym e ∙ is in
    record { stage = stage; device = cc; trouble = cc }

stuck_step : (path begin_path : Text) (before : Core) (settings : Settings) (s t : State) (u : Underway begin_path before s) → Stepped before s u.frame (record { label = Label.Trouble path Problem.NormalConflict; state = t }) ⊎ IsOver s u.frame (record { label = Label.Trouble path Problem.NormalConflict; state = t }) → IsStuck path u.frame
stuck_step path begin_path before settings s t u (inl h) = stuck_move s u.frame path t h.move.label (sym (ap (λ (x : Step). x.label) h.is)) h.moves.quiet
stuck_step path begin_path before settings s t u (inr over) = let label = ap (λ (x : Step). x.label) over.is in absurd (cc)

no_fit_found : (found : Found) → has_plan found ≡ false → Problem.NormalConflict ≡ trouble_of found → found ≡ no_fit
no_fit_found (assignment plan) h e = absurd (cc)
no_fit_found no_fit h e = refl
no_fit_found spent h e = absurd (cc)

-- Who can move --------------------------------------------------------------------------------

asked_node : (n : Node) → n.state ≡ Started → n.serial ≢ 0 → is_asked n ≡ true
asked_node n state up =
    let one : is_started n.state ≡ true = ap is_started state in
    let two : (n.serial == 0) ≡ false = grind (arith, nat_tests) in
    grind (arith)

not_both : (ks : List ℕ) (k : ℕ) → has ks k ≡ true → has ks k ≡ false → ⊥
not_both ks k h g = cc

within_split : (xs ys : List Entry) → AllWithin (xs ++ ys) → AllWithin xs × AllWithin ys
within_split [] ys h = (tt, h)
within_split (x ∷ xs) ys h = let more = within_split xs ys h.1 in ((h.0, more.0), more.1)

-- a stuck rebalance, at the end of a run from its begin on
record AtStuck (settings : Settings) (rack : List Driver) (path : Text) (before begun : State) (entries : List Entry) (last : State) (u : Underway path before.core last) : Type 0 where
  stage : u.frame.stage ≡ Stage.Stuck
  nodes : last.core.nodes ≡ before.core.nodes
  reserved : last.core.reserved ≡ before.core.reserved
  asks : Asks before.core.nodes [] u.frame.agreed u.frame.refused
  told : (k : ℕ) → has u.frame.refused k ≡ true → RefusedSince settings begun entries last k
  tells : (k : ℕ) → RefusedSince settings begun entries last k → has u.frame.refused k ≡ true

-- a device that can move: Started, not the root, and not staying
abbrev CanMove : Settings → State → List Entry → State → ℕ → Type 0
CanMove settings begun entries last k =
    (k ≢ 0) × ((n : Node) × (node_at k last.core.nodes ≡ Some n) × (n.state ≡ Started)) × (StaysSince settings begun entries last k → ⊥)

-- it is one that agreed
free_agreed : (settings : Settings) (rack : List Driver) (path : Text) (before begun : State) (entries : List Entry) (last : State) (u : Underway path before.core last) → AtStuck settings rack path before begun entries last u →
    (k : ℕ) → CanMove settings begun entries last k → has u.frame.agreed k ≡ true
free_agreed settings rack path before begun entries last u stuck k is =
    let node = is.1.0 in
    let at : node_at k before.core.nodes ≡ Some node = subst (λ (x : List Node). node_at k x ≡ Some node) stuck.nodes is.1.1 in
    let own = own_serial k node before.core.nodes at in
    let asked : IsAskedAt k before.core.nodes = (node, at, asked_node node is.1.2 (λ z. is.0 (sym own ∙ z))) in
    elim (stuck.asks.each k asked) [
      | inl e ↦ absurd (cc)
      | inr (inl e) ↦ e
      | inr (inr (inl e)) ↦ absurd (is.2 (inl (stuck.told k e)))
      | inr (inr (inr (j, e, up))) ↦
          absurd (is.2 (inr (j, stuck.told j e, subst (λ (x : List Node). has (above x j) k ≡ true) (sym stuck.nodes) up)))
    ]

-- and a device that agreed can move
agreed_free : (settings : Settings) (rack : List Driver) (path : Text) (before begun : State) (entries : List Entry) (last : State) (u : Underway path before.core last) → AtStuck settings rack path before begun entries last u →
    (k : ℕ) → has u.frame.agreed k ≡ true → CanMove settings begun entries last k
agreed_free settings rack path before begun entries last u stuck k h =
    let asked = stuck.asks.agrees k h in
    let node = asked.0 in
    let parts = asked_up node asked.2 in
    let own = own_serial k node before.core.nodes asked.1 in
    let stays : StaysSince settings begun entries last k → ⊥ =
    λ out. elim out [
      | inl since ↦ not_both u.frame.agreed k h (stuck.asks.refuses k (stuck.tells k since)).1
      | inr (j, since, up) ↦ not_both u.frame.agreed k h (stuck.asks.above j k (stuck.tells j since) (subst (λ (x : List Node). has (above x j) k ≡ true) stuck.nodes up)).1
    ] in
    ((λ z. parts.1 (own ∙ z)), (node, subst (λ (x : List Node). node_at k x ≡ Some node) (sym stuck.nodes) asked.1, parts.0), stays)

-- so those that agreed are those that can move, and no others are
agreed_are_free : (settings : Settings) (rack : List Driver) (path : Text) (before begun : State) (entries : List Entry) (last : State) (u : Underway path before.core last) → AtStuck settings rack path before begun entries last u →
    AreFree settings begun entries last u.frame.agreed
agreed_are_free settings rack path before begun entries last u stuck =
    record {
      ascending = increasing_from_rising u.frame.agreed stuck.asks.rising;
      each =
          λ k. (
            (λ c. agreed_free settings rack path before begun entries last u stuck k (has_from_contains u.frame.agreed k c)),
            (λ is. contains_from_has u.frame.agreed k (free_agreed settings rack path before begun entries last u stuck k is)),
          );
    }

free_are_agreed : (settings : Settings) (rack : List Driver) (path : Text) (before begun : State) (entries : List Entry) (last : State) (u : Underway path before.core last) (ms : List ℕ) → AtStuck settings rack path before begun entries last u →
    AreFree settings begun entries last ms → ms ≡ u.frame.agreed
free_are_agreed settings rack path before begun entries last u ms stuck free =
    same_ascent ms u.frame.agreed (rising_from_increasing ms free.ascending) stuck.asks.rising
    (λ k h. free_agreed settings rack path before begun entries last u stuck k ((free.each k).0 (contains_from_has ms k h)))
    (λ k h. has_from_contains ms k ((free.each k).1 (agreed_free settings rack path before begun entries last u stuck k h)))

-- The law ---------------------------------------------------------------------------------------

-- nodes and ranges are the same
nothing_fits_still : (c d : Core) (ms : List ℕ) → d.nodes ≡ c.nodes → d.reserved ≡ c.reserved → NothingFits c ms → NothingFits d ms
nothing_fits_still c d ms a b none fits =
    let fixed : fixed_beside d ms ≡ fixed_beside c ms =
    ap (λ (x : List Node). d.reserved ++ held_by (those (is_beside ms) x)) a ∙ ap (λ (x : List Res). x ++ held_by (those (is_beside ms) c.nodes)) b in
    let reqs : map (λ k. reqs_of (node_at k d.nodes)) ms ≡ map (λ k. reqs_of (node_at k c.nodes)) ms = ap (λ (x : List Node). map (λ k. reqs_of (node_at k x)) ms) a in
    none (subst (λ (x : List Res). Fits x (map (λ k. reqs_of (node_at k c.nodes)) ms)) fixed (subst (λ (x : List Reqs). Fits (fixed_beside d ms) x) reqs fits))

-- whoever refused since the begin is told at the end
refusers_told : (settings : Settings) (rack : List Driver) (path : Text) (before begun : State) (entries : List Entry) (last : State) → Tree before.next_serial before.core → Since OpKind.Rebalance settings rack path before begun entries last → AllWithin entries →
    (u : Underway path before.core last) → u.frame.stage ≡ Stage.Stuck → (k : ℕ) → RefusedSince settings begun entries last k → has u.frame.refused k ≡ true
refusers_told settings rack path before begun entries last tree since within u stage k (s, (xs, ys, e, run, more), refuses) =
    let split = within_split xs ys (subst (λ (l : List Entry). AllWithin l) e within) in
    let there = lasts settings rack path before.next_serial before.core tree begun xs s since.reached since.first split.0 run in
    let at_s = reached_after settings rack begun xs s since.reached run in
    let on = lasts settings rack path before.next_serial before.core tree s ys last at_s there.under split.1 more in
    let same : on.under.frame ≡ u.frame = (let a = on.under.runs in let b = u.runs in cc) in
    elim (on.tells k refuses) [
      | inl now ↦ absurd (asks_now now)
      | inr told ↦ subst (λ (x : Job). has x.refused k ≡ true) same told
    ]
  where
    asks_now : Refuses last k → ⊥
    asks_now now =
        let good = reached_is_good settings rack last (reached_after settings rack s ys last (reached_after settings rack begun xs s since.reached run) more) in
        let asking = (refusing last u.frame k good u.runs u.course now).2 in
        cc

-- a state in which a rebalance prints problem 12
record AtConflict (settings : Settings) (rack : List Driver) (begin_path path : Text) (before begun : State) (entries : List Entry) (last : State) : Type 0 where
  under : Underway begin_path before.core last
  stuck : AtStuck settings rack begin_path before begun entries last under
  device : path ≡ begin_path
  plain : under.frame.wanted ≡ None
  none : NothingFits last.core (under.frame.target ∷ under.frame.agreed)

at_conflict : (settings : Settings) (rack : List Driver) (earlier entries : List Entry) (before begun last after : State) (begin_path path : Text) →
    Reaches settings rack earlier before → Goes settings before (Did (Label.Begin OpKind.Rebalance begin_path)) begun → Run settings begun entries last → AllWithin entries →
    Goes settings last (Did (Label.Trouble path Problem.NormalConflict)) after → AtConflict settings rack begin_path path before begun entries last
at_conflict settings rack earlier entries before begun last after begin_path path reaches goes run within ends =
    let tree = reached_tree settings rack before (earlier, reaches) in
    let since = since_rebalance settings rack earlier entries before begun last begin_path reaches goes run within in
    let good = reached_is_good settings rack last (reached_after settings rack begun entries last since.reached run) in
    let u = since.lasts.under in
    let r = u.frame in
    let is_stuck = stuck_step path begin_path before.core settings last after u (rebalance_stepped begin_path before.next_serial before.core settings last (record { label = Label.Trouble path Problem.NormalConflict; state = after }) u tree good ends) in
    let undone : Undone before.core last.core r Stage.Stuck = subst (λ (x : Stage). Undone before.core last.core r x) is_stuck.stage u.undone in
    let asked : AskedSince before.core r Stage.Stuck = subst (λ (x : Stage). AskedSince before.core r x) is_stuck.stage u.asked in
    let found = no_fit_found r.found undone.1 is_stuck.trouble in
    record {
      under = u;
      stuck = record {
        stage = is_stuck.stage;
        nodes = undone.0.nodes;
        reserved = undone.0.reserved;
        asks = asked.0;
        told = λ j h. elim (since.lasts.told j h) [ inl e ↦ absurd (let none = since.fresh in let h2 = subst (λ (x : List ℕ). has x j ≡ true) none e in cc) | inr e ↦ e ];
        tells = refusers_told settings rack begin_path before begun entries last tree since within u is_stuck.stage;
      };
      device = is_stuck.device ∙ u.named;
      plain = plain_since settings rack begin_path before begun entries last since;
      none = nothing_fits_still before.core last.core (r.target ∷ r.agreed) undone.0.nodes undone.0.reserved (asked.1 (plain_since settings rack begin_path before begun entries last since) found);
    }

-- problem 12 comes only where no assignment exists for the device and all that can move
pub conflicts_are_real : ConflictsAreRealLaw
conflicts_are_real settings rack earlier entries before begun last after begin_path path reaches goes run within ends k n at named ms free =
    let tree = reached_tree settings rack before (earlier, reaches) in
    let c = at_conflict settings rack earlier entries before begun last after begin_path path reaches goes run within ends in
    let u = c.under in
    let r = u.frame in
    let same_movers = free_are_agreed settings rack begin_path before begun entries last u ms c.stuck free in
    let was : node_at k before.core.nodes ≡ Some n = subst (λ (x : List Node). node_at k x ≡ Some n) c.stuck.nodes at in
    let device : k ≡ r.target = tree.paths k r.target n u.target.0 was u.target.1 (named ∙ c.device ∙ sym u.target.2) in
    subst (λ (i : ℕ). NothingFits last.core (i ∷ ms)) (sym device) (subst (λ (l : List ℕ). NothingFits last.core (r.target ∷ l)) (sym same_movers) c.none)

-- Each problem 12 -------------------------------------------------------------------------------

pub each_conflict_is_real : EachConflictIsRealLaw
each_conflict_is_real settings rack entries s entry t path reaches goes e =
    let began : HasBegun settings rack entries s OpKind.Rebalance path = subst (λ (x : Label). Belongs settings rack entries s x) e (operations_begin settings rack entries s entry t reaches goes) in
    let c = at_conflict settings rack began.earlier began.later began.before began.begun s t path path began.reaches began.begins began.run began.within (subst (λ (x : Label). Goes settings s (Did x) t) e (step_did settings s entry t goes (λ beside. subst (λ (x : Label). IsBeside x) e beside))) in
    let u = c.under in
    record {
      began = began;
      movers = u.frame.agreed;
      free = agreed_are_free settings rack path began.before began.begun began.later s u c.stuck;
      device = u.frame.target;
      node = u.target.0;
      there = subst (λ (x : List Node). node_at u.frame.target x ≡ Some u.target.0) (sym c.stuck.nodes) u.target.1;
      named = u.target.2;
      none = c.none;
    }

-- By the list of the operation ----------------------------------------------------------------------

-- where nobody is left to ask, those that agreed are those that can move by the list of those that refused
listed_free : (nodes : List Node) (agreed refused : List ℕ) → Asks nodes [] agreed refused → AreFreeBy nodes refused agreed
listed_free nodes agreed refused asks =
    record {
      ascending = increasing_from_rising agreed asks.rising;
      each = λ k. ((λ c. moves k (has_from_contains agreed k c)), (λ is. contains_from_has agreed k (agrees k is)));
    }
  where
    stays : (k : ℕ) → has agreed k ≡ true → StaysOut nodes refused k → ⊥
    stays k h (inl listed) = not_both agreed k h (asks.refuses k listed).1
    stays k h (inr (j, listed, up)) = not_both agreed k h (asks.above j k listed up).1

    moves : (k : ℕ) → has agreed k ≡ true → CanMoveBy nodes refused k
    moves k h =
        let asked = asks.agrees k h in
        let node = asked.0 in
        let parts = asked_up node asked.2 in
        let own = own_serial k node nodes asked.1 in
        ((λ z. parts.1 (own ∙ z)), (node, asked.1, parts.0), stays k h)

    agrees : (k : ℕ) → CanMoveBy nodes refused k → has agreed k ≡ true
    agrees k is =
        let node = is.1.0 in
        let own = own_serial k node nodes is.1.1 in
        let asked : IsAskedAt k nodes = (node, is.1.1, asked_node node is.1.2 (λ z. is.0 (sym own ∙ z))) in
        elim (asks.each k asked) [
          | inl e ↦ absurd (cc)
          | inr (inl e) ↦ e
          | inr (inr out) ↦ absurd (is.2 out)
        ]

pub each_conflict_is_listed : EachConflictIsListedLaw
each_conflict_is_listed settings rack entries s entry t path reaches goes e =
    let began : HasBegun settings rack entries s OpKind.Rebalance path = subst (λ (x : Label). Belongs settings rack entries s x) e (operations_begin settings rack entries s entry t reaches goes) in
    let c = at_conflict settings rack began.earlier began.later began.before began.begun s t path path began.reaches began.begins began.run began.within (subst (λ (x : Label). Goes settings s (Did x) t) e (step_did settings s entry t goes (λ beside. subst (λ (x : Label). IsBeside x) e beside))) in
    let u = c.under in
    record {
      frame = u.frame;
      runs = u.runs;
      course = u.course;
      plain = c.plain;
      node = u.target.0;
      there = subst (λ (x : List Node). node_at u.frame.target x ≡ Some u.target.0) (sym c.stuck.nodes) u.target.1;
      named = u.target.2;
      movers = u.frame.agreed;
      free = subst (λ (x : List Node). AreFreeBy x u.frame.refused u.frame.agreed) (sym c.stuck.nodes) (listed_free began.before.core.nodes u.frame.agreed u.frame.refused c.stuck.asks);
      none = c.none;
    }
