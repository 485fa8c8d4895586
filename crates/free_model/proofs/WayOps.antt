-- The steps of starts with other answers.
use Rattle.std.proofs.Common.{ℕ, ◌≡◌, Bool, true, false, List, [], ◌∷◌, ◌++◌, length, Option, Some, None, refl, sym, ap, ◌∙◌, subst}
use Rattle.resource_reqs.specs.Spelling.Answer.{assignment, no_fit, spent}
use Rattle.pnp_labels.specs.Texts.{Text}
use Rattle.pnp_labels.specs.declared.words.Answer.{Answer}
use Rattle.pnp_labels.specs.declared.words.Answer.TheVariants.{Ok, Fail, Pend}
use Rattle.pnp_labels.specs.declared.words.AskWhat.{AskWhat}
use Rattle.pnp_labels.specs.declared.states.Problem.{Problem}
use Rattle.pnp_labels.specs.declared.label.Label.{Label}
use Rattle.pnp_model.specs.Books.{rack_reply, rack_after, name_of}
use Rattle.pnp_model.specs.Cores.{set_rack, set_stack, stacked}
use Rattle.pnp_model.specs.Walks.{has_ended, is_bad}
use Rattle.pnp_model.specs.Frames.{Move, Ask, core_after}
use Rattle.pnp_model.specs.Records.{Node, Core, Driver, Walk, Phase, Found, Doing}
use Rattle.pnp_model.specs.Records.Phase.{Adding, Searching, Starting, Removing, Due}
use Rattle.pnp_model.specs.Starts as starts
use Rattle.pnp_model.specs.Starts.{StartMove, act, add_driver, adding, goes}
use Rattle.free_model.proofs.Racks.{faces_of, same_names, shapes_after}
use Rattle.free_model.specs.Shapes.{faces}
use Rattle.free_model.proofs.Alikes.{Alike, does, searches}
use Rattle.free_model.specs.Asking.{said}
use Rattle.free_model.specs.Asks.{Query, query, walk_query, phase_query}
use Rattle.free_model.proofs.Ways.{KinLabel, one, adds, reply_to, WayMove, WayAsk, way_ask, rack_by, Agree}

-- where no driver is asked
pub plain : {F T : Type 0} (rack other : List Driver) (x : Move F T) → x.core.rack ≡ rack → WayMove None rack other x (record { label = x.label; core = set_rack other x.core; frame = x.frame; beside = x.beside })
plain rack other x own = record { kin = one x.label; own = own; agrees = λ e. refl; same = λ e. refl }

-- where one is: the move is made of the ask
pub by_ask : {F T : Type 0} (q : Option Query) (rack t : List Driver) (f : Ask → Move F T) (x y : Ask)
    → ((z : Ask) → (f z).label ≡ z.label) → ((z : Ask) → (f z).core ≡ z.core)
    → ((other : List Driver) → f (record { label = x.label; core = set_rack other x.core; walk = x.walk }) ≡ record { label = (f x).label; core = set_rack other (f x).core; frame = (f x).frame; beside = (f x).beside })
    → WayAsk q rack t x y → WayMove q rack t (f x) (f y)
by_ask q rack t f x y labels cores pure h =
    record {
      kin = subst (λ (l : Label). KinLabel (reply_to q rack) (reply_to q t) (f x).label l) (sym (labels y)) (subst (λ (l : Label). KinLabel (reply_to q rack) (reply_to q t) l y.label) (sym (labels x)) h.kin);
      own = ap (λ (c : Core). c.rack) (cores x) ∙ h.own;
      agrees = λ e. ap f (h.agrees e) ∙ pure (rack_by q t);
      same = λ e. ap f (h.same (sym (labels x) ∙ e ∙ labels y)) ∙ pure (rack_by q t);
    }

-- Starts ---------------------------------------------------------------------------------

pub add_label : (c : Core) (node : Node) (d : ℕ) (ds : List ℕ) (answer : Answer) → (add_driver c node d ds answer).label ≡ Label.Add node.path (name_of c.rack d) (said answer)
add_label c node d ds Ok = refl
add_label c node d ds Fail = refl
add_label c node d ds Pend = refl

add_over : (c : Core) (other : List Driver) (node : Node) (d : ℕ) (ds : List ℕ) (a b : Answer) → said a ≡ said b → name_of other d ≡ name_of c.rack d
    → add_driver (set_rack other c) node d ds b ≡ record { label = (add_driver c node d ds a).label; core = set_rack other (add_driver c node d ds a).core; frame = (add_driver c node d ds a).frame; beside = (add_driver c node d ds a).beside }
add_over c other node d ds Ok Ok e names = ap (λ (name : Text). goes (Label.Add node.path name true) (set_stack node.serial (node.stack ++ d ∷ []) (stacked node.state) (set_rack other c)) (adding ds)) names
add_over c other node d ds Fail Fail e names = ap (λ (name : Text). goes (Label.Add node.path name false) (set_rack other c) (Due Problem.FailedAdd)) names
add_over c other node d ds Fail Pend e names = ap (λ (name : Text). goes (Label.Add node.path name false) (set_rack other c) (Due Problem.FailedAdd)) names
add_over c other node d ds Pend Fail e names = ap (λ (name : Text). goes (Label.Add node.path name false) (set_rack other c) (Due Problem.FailedAdd)) names
add_over c other node d ds Pend Pend e names = ap (λ (name : Text). goes (Label.Add node.path name false) (set_rack other c) (Due Problem.FailedAdd)) names
add_over c other node d ds Ok Fail e names = absurd (cc)
add_over c other node d ds Ok Pend e names = absurd (cc)
add_over c other node d ds Fail Ok e names = absurd (cc)
add_over c other node d ds Pend Ok e names = absurd (cc)

abbrev ok_in : Bool → Label → Bool
ok_in other (Label.Add path name ok) = ok
ok_in other _ = other

add_own : (c : Core) (node : Node) (d : ℕ) (ds : List ℕ) (answer : Answer) → (add_driver c node d ds answer).core.rack ≡ c.rack
add_own c node d ds Ok = refl
add_own c node d ds Fail = refl
add_own c node d ds Pend = refl

added : (q : Query) (rack t : List Driver) (c : Core) (other : List Driver) (node : Node) (d : ℕ) (ds : List ℕ) → name_of other d ≡ name_of c.rack d
    → c.rack ≡ rack_by (Some q) rack → other ≡ rack_by (Some q) t
    → WayMove (Some q) rack t (add_driver c node d ds (reply_to (Some q) rack)) (add_driver (set_rack other c) node d ds (reply_to (Some q) t))
added q rack t c other node d ds names own after =
    let a : Answer = reply_to (Some q) rack in
    let b : Answer = reply_to (Some q) t in
    let name : Text = name_of c.rack d in
    let right : (add_driver (set_rack other c) node d ds b).label ≡ Label.Add node.path name (said b) =
    add_label (set_rack other c) node d ds b ∙ ap (λ (n : Text). Label.Add node.path n (said b)) names
    in
    record {
      kin =
          subst (λ (l : Label). KinLabel a b (add_driver c node d ds a).label l) (sym right)
          (subst (λ (l : Label). KinLabel a b l (Label.Add node.path name (said b))) (sym (add_label c node d ds a)) (adds node.path name));
      own = add_own c node d ds a ∙ own;
      agrees = λ e. subst (λ (r : List Driver). add_driver (set_rack other c) node d ds b ≡ record { label = (add_driver c node d ds a).label; core = set_rack r (add_driver c node d ds a).core; frame = (add_driver c node d ds a).frame; beside = (add_driver c node d ds a).beside }) after (add_over c other node d ds a b (ap said (sym e)) names);
      same = λ e. subst (λ (r : List Driver). add_driver (set_rack other c) node d ds b ≡ record { label = (add_driver c node d ds a).label; core = set_rack r (add_driver c node d ds a).core; frame = (add_driver c node d ds a).frame; beside = (add_driver c node d ds a).beside }) after (add_over c other node d ds a b (ap (ok_in true) (sym (add_label c node d ds a) ∙ e ∙ right)) names);
    }

asked_to_add : (c : Core) (t : List Driver) (node : Node) (d : ℕ) (ds : List ℕ) → faces t ≡ faces c.rack
    → WayMove (Some (record { what = AskWhat.Add; path = node.path; driver = d })) c.rack t (add_driver (core_after c AskWhat.Add node.path d) node d ds (rack_reply AskWhat.Add node.path c.rack d))
    (add_driver (core_after (set_rack t c) AskWhat.Add node.path d) node d ds (rack_reply AskWhat.Add node.path t d))
asked_to_add c t node d ds e =
    let own : List Driver = rack_after AskWhat.Add node.path c.rack d in
    let after : List Driver = rack_after AskWhat.Add node.path t d in
    let face : faces after ≡ faces own =
    faces_of after t (shapes_after AskWhat.Add node.path t d) ∙ e ∙ sym (faces_of own c.rack (shapes_after AskWhat.Add node.path c.rack d))
    in
    added (record { what = AskWhat.Add; path = node.path; driver = d }) c.rack t (core_after c AskWhat.Add node.path d) after node d ds (same_names after own d face) refl refl

start_searched : (c : Core) (other : List Driver) (node : Node) (found : Found) → WayMove None c.rack other (starts.searched c node found) (starts.searched (set_rack other c) node found)
start_searched c other node (assignment plan) = plain c.rack other (starts.searched c node (assignment plan)) refl
start_searched c other node no_fit = plain c.rack other (starts.searched c node no_fit) refl
start_searched c other node spent = plain c.rack other (starts.searched c node spent) refl

end_start : (c : Core) (t : List Driver) (node : Node) (bad : Bool) → WayMove None c.rack t (starts.end_start c node bad) (starts.end_start (set_rack t c) node bad)
end_start c t node true = plain c.rack t (starts.end_start c node true) refl
end_start c t node false = plain c.rack t (starts.end_start c node false) refl

start_on : (c : Core) (t : List Driver) (node : Node) (w : Walk) (over : Bool) → faces t ≡ faces c.rack → WayMove (walk_query node w over) c.rack t (starts.start_on c node w over) (starts.start_on (set_rack t c) node w over)
start_on c t node w true e = end_start c t node (is_bad w)
start_on c t node w false e = by_ask (Some (query node w)) c.rack t (starts.asks Starting) _ _ (λ z. refl) (λ z. refl) (λ other. refl) (way_ask c t node w e)

remove_on : (c : Core) (t : List Driver) (node : Node) (w : Walk) (over : Bool) → faces t ≡ faces c.rack → WayMove (walk_query node w over) c.rack t (starts.remove_on c node w over) (starts.remove_on (set_rack t c) node w over)
remove_on c t node w true e = plain c.rack t (starts.remove_on c node w true) refl
remove_on c t node w false e = by_ask (Some (query node w)) c.rack t (starts.asks Removing) _ _ (λ z. refl) (λ z. refl) (λ other. refl) (way_ask c t node w e)

undone : (c : Core) (other : List Driver) (node : Node) (problem : Problem) (stack : List ℕ) → WayMove None c.rack other (starts.undo c node problem stack) (starts.undo (set_rack other c) node problem stack)
undone c other node problem [] = plain c.rack other (starts.undo c node problem []) refl
undone c other node problem (d ∷ ds) = plain c.rack other (starts.undo c node problem (d ∷ ds)) refl

abbrev pub Forks : {F T : Type 0} → Option Query → Core → (Core → Option (Doing (Move F T))) → Type 0
Forks q c step = (t : List Driver) → faces t ≡ faces c.rack → Alike (WayMove q c.rack t) (step c) (step (set_rack t c))

pub way_act : (c : Core) (node : Node) (phase : Phase) → Forks (phase_query node phase) c (λ (x : Core). Some (act x node phase))
way_act c node (Adding []) t e = searches _ _ _ (start_searched c _ node)
way_act c node (Adding (d ∷ ds)) t e = does _ _ (asked_to_add c t node d ds e)
way_act c node Searching t e = searches _ _ _ (start_searched c _ node)
way_act c node (Starting w) t e = does _ _ (start_on c t node w (has_ended w (length node.stack)) e)
way_act c node (Removing w) t e = does _ _ (remove_on c t node w (has_ended w (length node.stack)) e)
way_act c node (Due problem) t e = does _ _ (undone _ _ node problem node.stack)
