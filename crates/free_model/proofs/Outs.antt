-- The output of every script is a run of the machine whatever its drivers answer.
use Rattle.std.proofs.Common.{ℕ, ◌≡◌, inl, inr, List, [], ◌∷◌, ◌++◌, map, Option, Some, None, refl, sym, ap, ◌∙◌, subst, Bool, true, false, ◌||◌, ◌==◌, arith}
use Rattle.std.specs.Prelude.{length, codes, slice_index}
use Rattle.std.proofs.lemmas.List.{append_assoc}
use Rattle.pnp_labels.specs.Texts.{Text, label_line, spaced, minor_text}
use Rattle.pnp_labels.specs.declared.words.Answer.{Answer}
use Rattle.pnp_labels.specs.declared.words.Answer.TheVariants.{Ok}
use Rattle.pnp_labels.specs.declared.words.DriverKind.{DriverKind}
use Rattle.pnp_labels.specs.declared.words.DriverKind.TheVariants.{Scripted, Steady, Stubborn}
use Rattle.pnp_labels.specs.declared.event.Rule.{Rule}
use Rattle.pnp_labels.specs.declared.label.Label.{Label}
use Rattle.pnp_model.specs.Cores.{set_rack, node_at}
use Rattle.pnp_model.specs.Walks.{place_of}
use Rattle.pnp_model.specs.Books.{rack_reply}
use Rattle.pnp_model.specs.Records.{Node, Core, Driver, Handle, State, Step, Settings, Doing}
use Rattle.pnp_model.specs.Machine.{next, IsStep, Steps, IsQuiet}
use Rattle.pnp_model.specs.Events.{happens}
use Rattle.pnp_model.specs.Runs.{opening}
use Rattle.pnp_model.specs.Endings as endings
use Rattle.pnp_model.specs.Endings.{ending, joined, handles_part, Outstanding, outstanding, outstanding_text, outstanding_line}
use Rattle.script_reader.specs.Script.{Trace, gives, waits, ends, stops}
use Rattle.free_model.specs.Frees.{told, with_rack, FreeSteps, new_driver, free_opening}
use Rattle.free_model.specs.Shapes.{Shape, shape, shapes, AreOf, faces}
use Rattle.free_model.specs.Checks.{Place, Runs, Ends, Follow, IsYes, bad_line, AllowsFirst, has_feed, end_bytes}
use Rattle.free_model.specs.Outputs.{Settles, text_of, error_line, end_text, MachinePrints, EachOutputIsARunLaw}
use Rattle.free_model.proofs.Racks.{faces_of, faces_told, same_names, same_told, replies_told, shapes_after}
use Rattle.free_model.proofs.Alikes.{Alike, rests, does, searches}
use Rattle.free_model.proofs.Ways.{Way, rack_by, reply_to, Agree}
use Rattle.free_model.proofs.WaySteps.{way_next, step_by}
use Rattle.free_model.specs.Asks.{Query, next_query}
use Rattle.free_model.proofs.TwinEvents.{Related, TwinEvent, twin_happens}
use Rattle.free_model.proofs.Quiets.{quiet_same}
use Rattle.free_model.proofs.Lines.{or_false}

-- Steps ----------------------------------------------------------------------------------

-- with all drivers answering as the driver that is asked does, it answers so
pub agreeing : (q : Option Query) (rack : List Driver) → Agree q rack (told (reply_to q rack) rack)
agreeing None rack = tt
agreeing (Some q) rack = replies_told q.what q.path rack q.driver

pub shapes_by : (q : Option Query) (rack : List Driver) → shapes (rack_by q rack) ≡ shapes rack
shapes_by None rack = refl
shapes_by (Some q) rack = shapes_after q.what q.path rack q.driver

-- what the step leaves of its own rack
pub own_rack : (settings : Settings) (q : Option Query) (a r : List Driver) {x y : Option (Doing Step)} (label : Label) (new : State) → Alike (Way q a r) x y → IsStep settings x (record { label = label; state = new }) → new.core.rack ≡ rack_by q a
own_rack settings q a r label new rests h = absurd h
own_rack settings q a r label new (does x0 y0 way) h = ap (λ (s : Step). s.state.core.rack) h ∙ way.own
own_rack settings q a r label new (searches p f g way) (found, answer, e) = ap (λ (s : Step). s.state.core.rack) e ∙ (way found).own

-- each step of the machine is one whatever its drivers answer
pub step_is_free : (settings : Settings) (f s : State) (label : Label) (new : State) → Related f s → Steps settings s label new → (next : State) × FreeSteps settings f label next × Related next new
step_is_free settings f s label new related h =
    let rack : List Driver = related.rack in
    let own : List Driver = s.core.rack in
    let q : Option Query = next_query s in
    let answer : Answer = reply_to q own in
    let t : List Driver = told answer own in
    let alike = way_next settings s t (faces_told answer own) in
    let step : Steps settings (with_rack t s) label (with_rack (rack_by q t) new) = step_by settings q own t label new alike (agreeing q own) h in
    let same : told answer rack ≡ t = same_told answer rack own (faces_of rack own related.shape) in
    let free : FreeSteps settings (with_rack rack s) label (with_rack rack new) =
    (answer, (with_rack (rack_by q t) new, subst (λ (u : List Driver). Steps settings (with_rack u s) label (with_rack (rack_by q t) new)) (sym same) step, refl))
    in (
      with_rack rack new,
      subst (λ (u : State). FreeSteps settings u label (with_rack rack new)) (sym related.is) free,
      record { rack = rack; is = refl; shape = related.shape ∙ sym (ap shapes (own_rack settings q own t label new alike h) ∙ shapes_by q own) },
    )

quiet_too : (settings : Settings) (f s : State) → Related f s → IsQuiet settings s → IsQuiet settings f
quiet_too settings f s related h = subst (IsQuiet settings) (sym related.is) (quiet_same settings s related.rack h)

-- The end of the output --------------------------------------------------------------------

map_same : {A B : Type 0} (f g : A → B) (xs : List A) → ((x : A) → f x ≡ g x) → map f xs ≡ map g xs
map_same f g [] e = refl
map_same f g (x ∷ xs) e = ap (λ t. f x ∷ t) (map_same f g xs e) ∙ ap (λ t. t ∷ map g xs) (e x)

line_same : (c : Core) (r : List Driver) (row : Outstanding) (o : Option Node) → faces r ≡ faces c.rack → outstanding_text (set_rack r c) row o ≡ outstanding_text c row o
line_same c r row None e = refl
line_same c r row (Some n) e =
    ap (λ (name : Text). spaced (n.path ∷ minor_text row.walk.minor ∷ name ∷ []))
    (same_names r c.rack (slice_index n.stack (place_of row.walk.minor (length n.stack) row.walk.asked)) e)

handles_same : (c : Core) (r : List Driver) (handles : List Handle) → handles_part (set_rack r c) handles ≡ handles_part c handles
handles_same c r [] = refl
handles_same c r (h ∷ hs) = refl

-- the lines before those of the outstanding requests, and then these
abbrev with_rows : State → List Text → List Text
with_rows s rows =
    codes "tree" ∷ (map endings.tree_line (endings.print_order s.core.nodes) ++ (codes "map" ∷ (map endings.map_line (endings.map_rows s.core) ++ (codes "outstanding" ∷ rows))))

pub ending_same : (s : State) (r : List Driver) → faces r ≡ faces s.core.rack → ending (with_rack r s) ≡ ending s
ending_same s r e =
    ap (λ (rows : List Text). with_rows s (map (outstanding_line (set_rack r s.core)) (outstanding s) ++ rows)) (handles_same s.core r s.handles)
    ∙ ap (λ (rows : List Text). with_rows s (rows ++ handles_part s.core s.handles))
    (map_same (outstanding_line (set_rack r s.core)) (outstanding_line s.core) (outstanding s) (λ row. line_same s.core r row (node_at row.serial s.core.nodes) e))

ending_too : (f s : State) → Related f s → ending f ≡ ending s
ending_too f s related = ap ending related.is ∙ ending_same s related.rack (faces_of related.rack s.core.rack related.shape)

-- Lines ----------------------------------------------------------------------------------------

pub joined_on : (a b : List Text) → joined (a ++ b) ≡ joined a ++ joined b
joined_on [] b = refl
joined_on (line ∷ a) b = ap (λ t. line ++ 10 ∷ t) (joined_on a b) ∙ sym (append_assoc line (10 ∷ joined a) (joined b))

follow_on : (settings : Settings) (here mid there : Place) (a b : List Text) → Follow settings here a mid → Follow settings mid b there → Follow settings here (a ++ b) there
follow_on settings here mid there [] b h g = subst (λ (x : Place). Follow settings x b there) h g
follow_on settings here mid there (line ∷ a) b (next, allows, h) g = (next, allows, follow_on settings next mid there a b h g)

no_feed : (byte : ℕ) (bytes : Text) → has_feed bytes ≡ false → (byte == 10) ≡ false → has_feed (bytes ++ byte ∷ []) ≡ false
no_feed byte [] h n = ap (λ (b : Bool). b || false) n
no_feed byte (x ∷ xs) h n =
    let (first, rest) = or_false (x == 10) (has_feed xs) h in
    ap (λ (b : Bool). b || has_feed (xs ++ byte ∷ [])) first ∙ no_feed byte xs rest n

-- lines that are allowed, one after another, up to the end, and that are all that is due
pub record Due (settings : Settings) (due : Text) : Type 0 where
  pub lines : List Text
  pub follow : Follow settings (Ends due) lines (Ends [])
  pub is : due ≡ joined lines

due_line : (settings : Settings) (line rest : Text) → has_feed line ≡ false → Due settings rest → Due settings (line ++ 10 ∷ rest)
due_line settings line rest none h =
    record { lines = line ∷ h.lines; follow = (Ends rest, (rest, refl, none, refl), h.follow); is = ap (λ (t : Text). line ++ 10 ∷ t) h.is }

due_step : (settings : Settings) (front : Text) (x : ℕ) (text rest : Text) → has_feed front ≡ false → Due settings (text ++ 10 ∷ rest)
    → (has_feed (front ++ x ∷ []) ≡ false → Due settings ((front ++ x ∷ []) ++ (text ++ 10 ∷ rest))) → (b : Bool) → (x == 10) ≡ b → Due settings (front ++ x ∷ (text ++ 10 ∷ rest))
due_step settings front x text rest none new more true e =
    let feed : x ≡ 10 = grind (arith, e) in
    subst (λ (y : ℕ). Due settings (front ++ y ∷ (text ++ 10 ∷ rest))) (sym feed) (due_line settings front (text ++ 10 ∷ rest) none new)
due_step settings front x text rest none new more false e =
    subst (Due settings) (append_assoc front (x ∷ []) (text ++ 10 ∷ rest)) (more (no_feed x front none e))

-- a text with its LF, of which the front was passed
due_text : (settings : Settings) (front text rest : Text) → has_feed front ≡ false → Due settings rest → Due settings (front ++ (text ++ 10 ∷ rest))
due_text settings front [] rest none h = due_line settings front rest none h
due_text settings front (x ∷ text) rest none h =
    due_step settings front x text rest none (due_text settings [] text rest refl h) (λ still. due_text settings (front ++ x ∷ []) text rest still h) (x == 10) refl

-- all that is due
pub follow_due : (settings : Settings) (due : List Text) → Due settings (joined due)
follow_due settings [] = record { lines = []; follow = refl; is = refl }
follow_due settings (line ∷ due) = due_text settings [] line (joined due) refl (follow_due settings due)

-- at the end of a script: what is due begins with an allowed line
record Starts (settings : Settings) (due : Text) : Type 0 where
  line : Text
  mid : Place
  allows : AllowsFirst due line mid
  lines : List Text
  follow : Follow settings mid lines (Ends [])
  is : due ≡ joined (line ∷ lines)

starts_by : (settings : Settings) (byte : ℕ) (due : Text) → Due settings (byte ∷ due) → Starts settings (byte ∷ due)
starts_by settings byte due h = by_lines h.lines h.follow h.is
  where
    by_lines : (lines : List Text) → Follow settings (Ends (byte ∷ due)) lines (Ends []) → byte ∷ due ≡ joined lines → Starts settings (byte ∷ due)
    by_lines [] follow is = absurd (cc)
    by_lines (line ∷ lines) (mid, allows, follow) is = record { line = line; mid = mid; allows = allows; lines = lines; follow = follow; is = is }

record Settled (settings : Settings) (f : State) (script : Trace) (labels : List Label) (new : State) : Type 0 where
  free : State
  follow : Follow settings (Runs f script) (map label_line labels) (Runs free script)
  related : Related free new
  quiet : IsQuiet settings new

settle_too : (settings : Settings) (script : Trace) (f s : State) (labels : List Label) (new : State) → Related f s → Settles settings s labels new → Settled settings f script labels new
settle_too settings script f s [] new related (e, quiet) =
    record { free = f; follow = refl; related = subst (Related f) (sym e) related; quiet = subst (IsQuiet settings) (sym e) quiet }
settle_too settings script f s (label ∷ labels) new related (mid, step, more) =
    let (next, goes, kept) = step_is_free settings f s label mid related step in
    let rest = settle_too settings script next mid labels new kept more in
    record {
      free = rest.free;
      follow = (Runs next script, inl (label, next, goes, refl, refl), rest.follow);
      related = rest.related;
      quiet = rest.quiet;
    }

pub error_too : (number : ℕ) (more : Text) → error_line number ++ more ≡ bad_line number ++ 10 ∷ more
error_too number more = append_assoc (bad_line number) (10 ∷ []) more

-- from a quiet state on
output_is_a_run : (settings : Settings) (script : Trace) (f s : State) (out : Text) → Related f s → IsQuiet settings s → MachinePrints settings s script out → IsYes settings (Runs f script) out
output_is_a_run settings (gives number event rest) f s out related quiet (labels, new, more, follows, prints, e) =
    let happened : TwinEvent (happens s event) (happens (with_rack related.rack s) event) = twin_happens s related.rack event related.shape in
    let line : label_line (happens f event).label ≡ label_line follows.first =
    ap label_line (ap (λ (x : State). (happens x event).label) related.is ∙ happened.label ∙ ap (λ (x : Step). x.label) follows.happened)
    in
    let begun : Related (happens f event).state follows.begun =
    subst (λ (x : State). Related x follows.begun) (sym (ap (λ (x : State). (happens x event).state) related.is))
    (subst (Related (happens (with_rack related.rack s) event).state) (ap (λ (x : Step). x.state) follows.happened) happened.state)
    in
    let settled = settle_too settings rest (happens f event).state follows.begun follows.more new begun follows.settled in
    let (lines, on, is) = output_is_a_run settings rest settled.free new more settled.related settled.quiet prints in
    let first : List Text = label_line follows.first ∷ map label_line follows.more in (
      first ++ lines,
      (
        Runs (happens f event).state rest,
        inr (quiet_too settings f s related quiet, (follows.own, sym line, refl)),
        follow_on settings (Runs (happens f event).state rest) (Runs settled.free rest) (Ends []) (map label_line follows.more) lines settled.follow on,
      ),
      e ∙ ap (λ (t : List Label). text_of t ++ more) follows.printed ∙ ap (λ (t : Text). joined first ++ t) is ∙ sym (joined_on first lines),
    )
output_is_a_run settings ends f s out related quiet e =
    let same = ending_too f s related in
    let begins = starts_by settings _ _ (follow_due settings (ending f)) in
    (begins.line ∷ begins.lines, (begins.mid, inr (quiet_too settings f s related quiet, begins.allows), begins.follow), e ∙ ap joined (sym same) ∙ begins.is)
output_is_a_run settings (stops number) f s out related quiet e =
    let same = ending_too f s related in
    let due = follow_due settings (ending f) in (
      bad_line number ∷ due.lines,
      (Ends (end_bytes f), inr (quiet_too settings f s related quiet, (refl, refl)), due.follow),
      e ∙ error_too number (end_text s) ∙ ap (λ (t : List Text). bad_line number ++ 10 ∷ joined t) (sym same) ∙ ap (λ (t : Text). bad_line number ++ 10 ∷ t) due.is,
    )
output_is_a_run settings waits f s out related quiet h = absurd h

-- The beginning ----------------------------------------------------------------------------------

taught_nothing : (kind : DriverKind) (d : Driver) → d.kind ≡ kind → d.name ≡ None → (kind ≡ Scripted → d.book ≡ []) → shape (new_driver kind) ≡ shape d
taught_nothing Scripted d kind name book = ap (λ (b : List Rule). shape (record { kind = Scripted; name = None; book = b })) (sym (book refl)) ∙ cc
taught_nothing Steady d kind name book = cc
taught_nothing Stubborn d kind name book = cc

begin_shapes : (kinds : List DriverKind) (rack : List Driver) → AreOf kinds rack → shapes (map new_driver kinds) ≡ shapes rack
begin_shapes [] [] h = refl
begin_shapes (kind ∷ kinds) (d ∷ rack) (is, name, book, more) =
    ap (λ (t : List Shape). shape (new_driver kind) ∷ t) (begin_shapes kinds rack more)
    ∙ ap (λ (t : Shape). t ∷ shapes rack) (taught_nothing kind d is name book)
begin_shapes [] (d ∷ rack) h = absurd h
begin_shapes (kind ∷ kinds) [] h = absurd h

pub each_output : EachOutputIsARunLaw
each_output settings kinds rack script out are prints =
    output_is_a_run settings script (free_opening kinds) (opening rack) out
    (record { rack = map new_driver kinds; is = refl; shape = begin_shapes kinds rack are }) refl prints
