-- The machine's steps with other books: which ask is made, what it changes, and that nothing else depends on books.
use Rattle.std.proofs.Common.{ℕ, ◌≡◌, Bool, true, false, List, [], ◌∷◌, ◌++◌, Option, Some, None, refl, sym, ap, ◌∙◌, subst, arith}
use Rattle.std.specs.Prelude.{codes}
use Rattle.std.proofs.lemmas.List.{append_assoc, append_cancel_left}
use Rattle.pnp_labels.specs.Texts.{Text, label_line, minor_text, shown_text, ok_text, spaced}
use Rattle.pnp_labels.specs.declared.words.Answer.{Answer}
use Rattle.pnp_labels.specs.declared.words.Answer.TheVariants.{Ok, Fail, Pend}
use Rattle.pnp_labels.specs.declared.words.AskWhat.{AskWhat}
use Rattle.pnp_labels.specs.declared.words.Minor.{Minor}
use Rattle.pnp_labels.specs.declared.label.Shown.{Shown}
use Rattle.pnp_labels.specs.declared.label.Shown.TheVariants as shows
use Rattle.pnp_labels.specs.declared.label.Label.{Label}
use Rattle.pnp_model.specs.Cores.{set_rack}
use Rattle.pnp_model.specs.Books.{rack_reply, rack_after, name_of}
use Rattle.pnp_model.specs.Walks.{after, shown_of, shown_fail, may_fail}
use Rattle.pnp_model.specs.Frames.{Move, Ask, asked, ask_driver, next_driver}
use Rattle.pnp_model.specs.Records.{Node, Core, Driver, Walk, Step}
use Rattle.free_model.specs.Frees.{with_rack}
use Rattle.free_model.specs.Asking.{said}
use Rattle.free_model.specs.Asks.{Query, query}
use Rattle.free_model.proofs.Racks.{same_names}
use Rattle.free_model.specs.Shapes.{faces}

-- one label, or two that tell these two answers to one ask
pub data KinLabel (a b : Answer) : Label → Label → Type 0 where
  one : (l : Label) → KinLabel a b l l
  asks : (minor : Minor) (path name : Text) → KinLabel a b (Label.Asked minor path name (shown_of minor a)) (Label.Asked minor path name (shown_of minor b))
  adds : (path name : Text) → KinLabel a b (Label.Add path name (said a)) (Label.Add path name (said b))

-- how the driver that is asked answers, if there is an ask
abbrev pub reply_to : Option Query → List Driver → Answer
reply_to None rack = Ok
reply_to (Some q) rack = rack_reply q.what q.path rack q.driver

-- the rack after the ask, if there is one
abbrev pub rack_by : Option Query → List Driver → List Driver
rack_by None rack = rack
rack_by (Some q) rack = rack_after q.what q.path rack q.driver

-- both racks answer the ask alike
abbrev pub Agree : Option Query → List Driver → List Driver → Type 0
Agree None a b = Unit {0}
Agree (Some q) a b = rack_reply q.what q.path b q.driver ≡ rack_reply q.what q.path a q.driver

-- two steps, with the one rack and with another: their labels differ in the answer alone; each leaves its rack as the ask does;
-- and where the answers are one, or the labels are, so is all else
pub record Way (q : Option Query) (rack other : List Driver) (x y : Step) : Type 0 where
  pub kin : KinLabel (reply_to q rack) (reply_to q other) x.label y.label
  pub own : x.state.core.rack ≡ rack_by q rack
  pub agrees : Agree q rack other → y ≡ record { label = x.label; state = with_rack (rack_by q other) x.state }
  pub same : x.label ≡ y.label → y.state ≡ with_rack (rack_by q other) x.state

pub record WayMove {F T : Type 0} (q : Option Query) (rack other : List Driver) (x y : Move F T) : Type 0 where
  pub kin : KinLabel (reply_to q rack) (reply_to q other) x.label y.label
  pub own : x.core.rack ≡ rack_by q rack
  pub agrees : Agree q rack other → y ≡ record { label = x.label; core = set_rack (rack_by q other) x.core; frame = x.frame; beside = x.beside }
  pub same : x.label ≡ y.label → y ≡ record { label = x.label; core = set_rack (rack_by q other) x.core; frame = x.frame; beside = x.beside }

pub record WayAsk (q : Option Query) (rack other : List Driver) (x y : Ask) : Type 0 where
  pub kin : KinLabel (reply_to q rack) (reply_to q other) x.label y.label
  pub own : x.core.rack ≡ rack_by q rack
  pub agrees : Agree q rack other → y ≡ record { label = x.label; core = set_rack (rack_by q other) x.core; walk = x.walk }
  pub same : x.label ≡ y.label → y ≡ record { label = x.label; core = set_rack (rack_by q other) x.core; walk = x.walk }

-- Lines --------------------------------------------------------------------------------------

abbrev rest_of : Text → Text
rest_of [] = []
rest_of (x ∷ xs) = xs

abbrev first : Text → ℕ
first [] = 0
first (x ∷ xs) = x

numbers : (n m : ℕ) → n ≡ m → n ≡ m
numbers n m e = e

-- different words of an answer begin with different letters
shown_word : (a b : Shown) (m n : Text) → shown_text a ++ 10 ∷ m ≡ shown_text b ++ 10 ∷ n → a ≡ b
shown_word shows.Ok shows.Ok m n e = refl
shown_word shows.Fail shows.Fail m n e = refl
shown_word shows.Pend shows.Pend m n e = refl
shown_word shows.Violation shows.Violation m n e = refl
shown_word shows.Ok shows.Fail m n e = let h = numbers 111 102 (ap first e) in absurd (omega arith)
shown_word shows.Ok shows.Pend m n e = let h = numbers 111 112 (ap first e) in absurd (omega arith)
shown_word shows.Ok shows.Violation m n e = let h = numbers 111 118 (ap first e) in absurd (omega arith)
shown_word shows.Fail shows.Ok m n e = let h = numbers 102 111 (ap first e) in absurd (omega arith)
shown_word shows.Fail shows.Pend m n e = let h = numbers 102 112 (ap first e) in absurd (omega arith)
shown_word shows.Fail shows.Violation m n e = let h = numbers 102 118 (ap first e) in absurd (omega arith)
shown_word shows.Pend shows.Ok m n e = let h = numbers 112 111 (ap first e) in absurd (omega arith)
shown_word shows.Pend shows.Fail m n e = let h = numbers 112 102 (ap first e) in absurd (omega arith)
shown_word shows.Pend shows.Violation m n e = let h = numbers 112 118 (ap first e) in absurd (omega arith)
shown_word shows.Violation shows.Ok m n e = let h = numbers 118 111 (ap first e) in absurd (omega arith)
shown_word shows.Violation shows.Fail m n e = let h = numbers 118 102 (ap first e) in absurd (omega arith)
shown_word shows.Violation shows.Pend m n e = let h = numbers 118 112 (ap first e) in absurd (omega arith)

ok_word : (a b : Bool) (m n : Text) → ok_text a ++ 10 ∷ m ≡ ok_text b ++ 10 ∷ n → a ≡ b
ok_word true true m n e = refl
ok_word false false m n e = refl
ok_word true false m n e = let h = numbers 111 102 (ap first e) in absurd (omega arith)
ok_word false true m n e = let h = numbers 102 111 (ap first e) in absurd (omega arith)

-- a line of three words and its answer, with what follows
before_word : (a b c word m : Text) → spaced (a ∷ b ∷ c ∷ word ∷ []) ++ 10 ∷ m ≡ spaced (a ∷ b ∷ c ∷ []) ++ (32 ∷ (word ++ 10 ∷ m))
before_word a b c word m = simp (append_assoc)

-- two such labels whose lines begin a text alike are one
pub one_label : {a b : Answer} {l k : Label} (m n : Text) → KinLabel a b l k → label_line l ++ 10 ∷ m ≡ label_line k ++ 10 ∷ n → l ≡ k
one_label m n (one l) e = refl
one_label {a} {b} m n (asks minor path name) e =
    let cut = append_cancel_left (spaced (minor_text minor ∷ path ∷ name ∷ [])) _ _
    (sym (before_word (minor_text minor) path name (shown_text (shown_of minor a)) m) ∙ e ∙ before_word (minor_text minor) path name (shown_text (shown_of minor b)) n)
    in
    ap (Label.Asked minor path name) (shown_word (shown_of minor a) (shown_of minor b) m n (ap rest_of cut))
one_label {a} {b} m n (adds path name) e =
    let cut = append_cancel_left (spaced (codes "add" ∷ path ∷ name ∷ [])) _ _
    (sym (before_word (codes "add") path name (ok_text (said a)) m) ∙ e ∙ before_word (codes "add") path name (ok_text (said b)) n)
    in
    ap (Label.Add path name) (ok_word (said a) (said b) m n (ap rest_of cut))

-- An ask ------------------------------------------------------------------------------------------

shown_fails : (minor : Minor) (b : Bool) → (shows.Ok ≡ shown_fail b → ⊥) × (shown_fail b ≡ shows.Pend → ⊥)
shown_fails minor true = (λ e. absurd (cc), λ e. absurd (cc))
shown_fails minor false = (λ e. absurd (cc), λ e. absurd (cc))

-- an answer is shown as itself
shown_one : (minor : Minor) (a b : Answer) → shown_of minor a ≡ shown_of minor b → a ≡ b
shown_one minor Ok Ok e = refl
shown_one minor Fail Fail e = refl
shown_one minor Pend Pend e = refl
shown_one minor Ok Fail e = absurd ((shown_fails minor (may_fail minor)).0 e)
shown_one minor Fail Ok e = absurd ((shown_fails minor (may_fail minor)).0 (sym e))
shown_one minor Fail Pend e = absurd ((shown_fails minor (may_fail minor)).1 e)
shown_one minor Pend Fail e = absurd ((shown_fails minor (may_fail minor)).1 (sym e))
shown_one minor Ok Pend e = absurd (cc)
shown_one minor Pend Ok e = absurd (cc)

shown_in : Shown → Label → Shown
shown_in other (Label.Asked minor path name shown) = shown
shown_in other _ = other

asked_shown : (minor : Minor) (path name : Text) (a b : Shown) → Label.Asked minor path name a ≡ Label.Asked minor path name b → a ≡ b
unfolding shown_in
asked_shown minor path name a b e = ap (shown_in a) e

pub way_ask : (c : Core) (t : List Driver) (node : Node) (w : Walk) → faces t ≡ faces c.rack → WayAsk (Some (query node w)) c.rack t (asked c node w) (asked (set_rack t c) node w)
way_ask c t node w e =
    record {
      kin =
          subst (λ (name : Text). KinLabel a b (Label.Asked w.minor node.path (name_of c.rack driver) (shown_of w.minor a)) (Label.Asked w.minor node.path name (shown_of w.minor b))) (sym names)
          (asks w.minor node.path (name_of c.rack driver));
      own = refl;
      agrees = by_answer;
      same =
          λ l. by_answer (sym (shown_one w.minor a b
          (asked_shown w.minor node.path (name_of c.rack driver) (shown_of w.minor a) (shown_of w.minor b)
          (l ∙ ap (λ (name : Text). Label.Asked w.minor node.path name (shown_of w.minor b)) names))));
    }
  where
    driver : ℕ
    driver = next_driver node w

    a : Answer
    a = rack_reply (AskWhat.Irp w.minor) node.path c.rack driver

    b : Answer
    b = rack_reply (AskWhat.Irp w.minor) node.path t driver

    after_rack : List Driver
    after_rack = rack_after (AskWhat.Irp w.minor) node.path t driver

    names : name_of t driver ≡ name_of c.rack driver
    names = same_names t c.rack driver e

    by_answer : b ≡ a → ask_driver (set_rack t c) node w driver b ≡ record { label = Label.Asked w.minor node.path (name_of c.rack driver) (shown_of w.minor a); core = set_rack after_rack c; walk = after w a }
    by_answer alike =
        ap (λ (x : Answer). ask_driver (set_rack t c) node w driver x) alike
        ∙ ap (λ (name : Text). record { label = Label.Asked w.minor node.path name (shown_of w.minor a); core = set_rack after_rack c; walk = after w a }) names
