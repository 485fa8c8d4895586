-- Two runs but for books from one state: where the same comes from outside they have the same entries, and lead to one state but for books.
use Rattle.std.proofs.Common.{◌≡◌, List, [], ◌∷◌, ◌++◌, Option, Some, refl, sym, ap, ap₂, ◌∙◌, subst}
use Rattle.std.proofs.lemmas.List.{append_assoc}
use Rattle.pnp_labels.specs.declared.event.Event.{Event}
use Rattle.pnp_labels.specs.declared.label.Label.{Label}
use Rattle.pnp_labels.specs.declared.label.Shown.{Shown}
use Rattle.pnp_model.specs.Events.{happens}
use Rattle.pnp_model.specs.Machine.{IsQuiet, IsStep, Steps}
use Rattle.pnp_model.specs.Records.{Doing, Driver, Settings, State, Step}
use Rattle.pnp_model.specs.Runs.{Entry}
use Rattle.pnp_model.specs.Runs.Entry.{Happens, Did, Declines}
use Rattle.free_model.specs.Asks.{next_query}
use Rattle.free_model.specs.Frees.{with_rack}
use Rattle.free_model.specs.Runs.{IsUntaught}
use Rattle.free_model.specs.Shapes.{faces}
use Rattle.free_model.proofs.Quiets.{quiet_same}
use Rattle.free_model.proofs.SameQueries.{query_same}
use Rattle.free_pairs.specs.Alike.{GoesBeyond, more_happened, more_answered, rests, asks}
use Rattle.pnp_promises.specs.Later.{happened}
use Rattle.free_pairs.specs.Answers.{answer, answers}
use Rattle.free_pairs.proofs.Asked.{asks_tell, no_more, tells_ask, tells_is_ask}
use Rattle.free_pairs.proofs.Happenings.{twin_happens}
use Rattle.free_pairs.proofs.Loose.{LooseRun, from_twin}
use Rattle.free_pairs.proofs.Twins.{Twins, kin_same, twins_of, way_of}

module _ (settings : Settings) where
  -- where nothing is next, no step is; nor is one with other books
  still : (s : State) (q r : List Driver) (label : Label) (t : State) → IsQuiet settings (with_rack q s) → Steps settings (with_rack r s) label t → ⊥
  still s q r label t quiet steps =
      subst (λ (o : Option (Doing Step)). IsStep settings o (record { label = label; state = t })) (quiet_same settings (with_rack q s) r quiet) steps

  -- the same event happens in one way
  event_twins : (s : State) (q r : List Driver) (event other : Event) (a b : Label) (x y : State) → IsUntaught event → faces q ≡ faces s.core.rack → faces r ≡ faces s.core.rack → other ≡ event
      → happens (with_rack q s) event ≡ record { label = a; state = x } → happens (with_rack r s) other ≡ record { label = b; state = y } → (b ≡ a) × Twins x y
  event_twins s q r event other a b x y plain e f own h g =
      let twin = twin_happens (with_rack q s) r event plain (f ∙ sym e) in
      let second : happens (with_rack r s) event ≡ record { label = b; state = y } = ap (happens (with_rack r s)) (sym own) ∙ g in (
        sym (ap (λ (z : Step). z.label) second) ∙ twin.label ∙ ap (λ (z : Step). z.label) h,
        record {
          rack = twin.state.rack;
          is = sym (ap (λ (z : Step). z.state) second) ∙ twin.state.is ∙ ap (λ (z : Step). with_rack twin.state.rack z.state) h;
          shown = twin.state.shown ∙ ap (λ (z : Step). faces z.state.core.rack) h;
        },
      )

  -- a run that goes beyond does not end where the other does a step
  no_end : (s : State) (q : List Driver) (a : Label) (mid y : State) (xs : List Entry) (more : List Event) (told : List Shown) → GoesBeyond settings y more told → Twins s y → Steps settings (with_rack q s) a mid
      → [] ≡ happened xs ++ more → [] ≡ (answer a ++ answers xs) ++ told → ⊥
  no_end s q a mid y xs more told (more_happened some) twins goes h g = some (no_more (happened xs) more h)
  no_end s q a mid y xs more told (more_answered some) twins goes h g = some (no_more (answer a ++ answers xs) told g)
  no_end s q a mid y xs more told (rests quiet) twins goes h g = still s twins.rack q a mid (subst (IsQuiet settings) twins.is quiet) goes
  no_end s q a mid y xs more told (asks ask own) twins goes h g =
      let first : next_query (with_rack q s) ≡ Some ask = query_same q s ∙ sym (query_same twins.rack s) ∙ ap next_query (sym twins.is) ∙ own in
      asks_tell a (answers xs ++ told) (tells_is_ask (tells_ask settings (with_rack q s) a mid ask goes first)) (sym (g ∙ append_assoc (answer a) (answers xs) told))

  -- The front of a run that goes beyond
  pub front_of : (s : State) (one two : List Entry) (x y : State) (more : List Event) (told : List Shown) → LooseRun settings s one x → LooseRun settings s two y
      → happened two ≡ happened one ++ more → answers two ≡ answers one ++ told → GoesBeyond settings y more told → (rest : List Entry) × (two ≡ one ++ rest)
  front_of s [] two x y more told run other h g beyond = (two, refl)
  front_of s (Did a ∷ xs) [] x y more told (q, mid, e, goes, run) other h g beyond = absurd (no_end s q a mid y xs more told beyond other goes h g)
  front_of s (Happens event a ∷ xs) [] x y more told run other h g beyond = absurd (let f : [] ≡ event ∷ (happened xs ++ more) = h in cc)
  front_of s (Declines a ∷ xs) two x y more told (q, mid, e, goes, run) other h g beyond = absurd goes
  front_of s (Did a ∷ xs) (Did b ∷ ys) x y more told (q, mid, e, goes, run) (r, mid2, f, goes2, run2) h g beyond =
      let way = way_of settings (with_rack q s) r a b mid mid2 (f ∙ sym e) goes goes2 in
      let same = kin_same way.kin (answers xs ++ told) (answers ys) (g ∙ append_assoc (answer a) (answers xs) told) in
      let twins = twins_of settings (with_rack q s) r a b mid mid2 (f ∙ sym e) goes goes2 same.0 in
      let rest = front_of mid xs ys x y more told run (from_twin settings mid mid2 twins ys y run2) h same.1 beyond in
      (rest.0, ap₂ (λ (l : Label) (zs : List Entry). Did l ∷ zs) (sym same.0) rest.1)
  front_of s (Happens event a ∷ xs) (Happens other b ∷ ys) x y more told (q, mid, e, goes, run) (r, mid2, f, goes2, run2) h g beyond =
      let both : other ∷ happened ys ≡ event ∷ (happened xs ++ more) = h in
      let own : other ≡ event = cc in
      let left : happened ys ≡ happened xs ++ more = cc in
      let same = event_twins s q r event other a b mid mid2 goes.1 e f own goes.2 goes2.2 in
      let rest = front_of mid xs ys x y more told run (from_twin settings mid mid2 same.1 ys y run2) left g beyond in
      (rest.0, ap₂ (λ (k : Entry) (zs : List Entry). k ∷ zs) (ap₂ (λ (v : Event) (l : Label). Happens v l) own same.0) rest.1)
  front_of s (Did a ∷ xs) (Happens event b ∷ ys) x y more told (q, mid, e, goes, run) (r, mid2, f, goes2, run2) h g beyond = absurd (still s r q a mid goes2.0 goes)
  front_of s (Happens event a ∷ xs) (Did b ∷ ys) x y more told (q, mid, e, goes, run) (r, mid2, f, goes2, run2) h g beyond = absurd (still s q r b mid2 goes.0 goes2)
  front_of s (Did a ∷ xs) (Declines b ∷ ys) x y more told run (r, mid2, f, goes2, run2) h g beyond = absurd goes2
  front_of s (Happens event a ∷ xs) (Declines b ∷ ys) x y more told run (r, mid2, f, goes2, run2) h g beyond = absurd goes2

  -- The same entries
  pub same_end : (s : State) (entries : List Entry) (x y : State) → LooseRun settings s entries x → LooseRun settings s entries y → Twins x y
  same_end s [] x y run other =
      subst (λ (z : State). Twins z y) (sym run.is) (record { rack = other.rack; is = other.is; shown = other.shown ∙ sym run.shown })
  same_end s (Did l ∷ rest) x y (q, mid, e, goes, run) (r, mid2, f, goes2, run2) =
      same_end mid rest x y run (from_twin settings mid mid2 (twins_of settings (with_rack q s) r l l mid mid2 (f ∙ sym e) goes goes2 refl) rest y run2)
  same_end s (Happens event l ∷ rest) x y (q, mid, e, goes, run) (r, mid2, f, goes2, run2) =
      same_end mid rest x y run (from_twin settings mid mid2 (event_twins s q r event event l l mid mid2 goes.1 e f refl goes.2 goes2.2).1 rest y run2)
  same_end s (Declines l ∷ rest) x y (q, mid, e, goes, run) other = absurd goes
