-- Drivers under other names: each answers what it did, and has the number that it had.
use Rattle.std.proofs.Common.{ℕ, ◌≡◌, Bool, List, [], ◌∷◌, map, Option, Some, None, slice_get, refl, sym, ap, ap₂, ◌∙◌}
use Rattle.std.specs.Prelude.{◌&&◌, option_map, find, is_none}
use Rattle.pnp_labels.specs.Texts.{Text}
use Rattle.pnp_labels.specs.declared.event.Rule.{Rule}
use Rattle.pnp_labels.specs.declared.words.Answer.{Answer}
use Rattle.pnp_labels.specs.declared.words.AskWhat.{AskWhat}
use Rattle.pnp_labels.specs.declared.words.DriverKind.{DriverKind}
use Rattle.pnp_labels.specs.declared.words.Minor.{Minor}
use Rattle.pnp_labels.specs.declared.words.Minor.TheVariants.{Start, QueryRemove, Remove, CancelRemove, Stop, QueryStop, CancelStop, SurpriseRemoval}
use Rattle.pnp_labels.specs.declared.label.Label.{Label}
use Rattle.pnp_model.specs.Books.{answer_in, book_of, driver_named, fits, has_uses, is_named, is_unnamed, later, name_is, name_of, name_or_none, path_fits, printed_name, rack_after, rack_reply, reply, used, with_later}
use Rattle.pnp_model.specs.Cores.{change_node, core_of, is_node, set_rack}
use Rattle.pnp_model.specs.Frames.{Ask, ask_driver, asked, ended, next_driver}
use Rattle.pnp_model.specs.Records.{Core, Driver, Node, Walk}
use Rattle.pnp_model.specs.Tasks.{numbered, numbered_more}
use Rattle.pnp_model.specs.Tests.{same_kind, same_what}
use Rattle.pnp_model.specs.Walks.{after, shown_of}
use Rattle.pnp_pairs.specs.Renamed as renamed
use Rattle.pnp_pairs.specs.Renamed.{Renaming}
use Rattle.pnp_pairs.proofs.Maps.{changed_map, find_map, get_map, position_map, set_map}

-- an ask under the new words
abbrev pub ask : Renaming → Ask → Ask
ask r a = record { label = renamed.label r a.label; core = renamed.core r a.core; walk = a.walk }

module _ (r : Renaming) where
  -- Answers -----------------------------------------------------------------------

  path_same : (own : Option Text) (path : Text) → path_fits (option_map r.path own) (r.path path) ≡ path_fits own path
  path_same None path = refl
  path_same (Some own) path = r.paths own path

  fits_same : (what : AskWhat) (path : Text) (rule : Rule) → fits what (r.path path) (renamed.rule r rule) ≡ fits what path rule
  fits_same what path rule = ap (λ (b : Bool). same_what rule.what what && b && has_uses rule.uses) (path_same rule.path path)

  answer_same : (o : Option Rule) → answer_in (option_map (renamed.rule r) o) ≡ answer_in o
  answer_same None = refl
  answer_same (Some rule) = refl

  reply_same : (what : AskWhat) (path : Text) (book : List Rule) → reply what (r.path path) (map (renamed.rule r) book) ≡ reply what path book
  reply_same what path book =
      ap answer_in (find_map (renamed.rule r) (fits what path) (fits what (r.path path)) (fits_same what path) book) ∙ answer_same (find (fits what path) book)

  pub rack_reply_same : (what : AskWhat) (path : Text) (rack : List Driver) (k : ℕ) → rack_reply what (r.path path) (renamed.rack r rack) k ≡ rack_reply what path rack k
  rack_reply_same what path rack k =
      ap (λ (o : Option Driver). reply what (r.path path) (book_of o)) (get_map (renamed.driver r) rack k) ∙ by_driver (slice_get rack k)
    where
      by_driver : (o : Option Driver) → reply what (r.path path) (book_of (option_map (renamed.driver r) o)) ≡ reply what path (book_of o)
      by_driver None = refl
      by_driver (Some d) = reply_same what path d.book

  later_same : (what : AskWhat) (path : Text) (book : List Rule) → later what (r.path path) (map (renamed.rule r) book) ≡ map (renamed.rule r) (later what path book)
  later_same what path book = changed_map (renamed.rule r) (fits what path) (fits what (r.path path)) used used (fits_same what path) (λ rule. refl) book

  pub rack_after_same : (what : AskWhat) (path : Text) (rack : List Driver) (k : ℕ) → rack_after what (r.path path) (renamed.rack r rack) k ≡ renamed.rack r (rack_after what path rack k)
  rack_after_same what path rack k =
      ap (with_later what (r.path path) (renamed.rack r rack) k) (get_map (renamed.driver r) rack k) ∙ by_driver (slice_get rack k)
    where
      by_driver : (o : Option Driver) → with_later what (r.path path) (renamed.rack r rack) k (option_map (renamed.driver r) o) ≡ renamed.rack r (with_later what path rack k o)
      by_driver None = refl
      by_driver (Some d) =
          ap (λ (book : List Rule). Rattle.std.specs.Prelude.slice_set (renamed.rack r rack) k (record { kind = d.kind; name = option_map r.name d.name; book = book })) (later_same what path d.book)
          ∙ set_map (renamed.driver r) rack k (record d { book = later what path d.book })

  -- Names -------------------------------------------------------------------------

  printed_same : (o : Option Text) → printed_name (option_map r.name o) ≡ r.name (printed_name o)
  printed_same None = sym r.no_name
  printed_same (Some name) = refl

  driver_name : (o : Option Driver) → printed_name (name_or_none (option_map (renamed.driver r) o)) ≡ r.name (printed_name (name_or_none o))
  driver_name None = sym r.no_name
  driver_name (Some d) = printed_same d.name

  pub name_same : (rack : List Driver) (k : ℕ) → name_of (renamed.rack r rack) k ≡ r.name (name_of rack k)
  name_same rack k = ap (λ (o : Option Driver). printed_name (name_or_none o)) (get_map (renamed.driver r) rack k) ∙ driver_name (slice_get rack k)

  name_is_same : (name : Text) (own : Option Text) → name_is (r.name name) (option_map r.name own) ≡ name_is name own
  name_is_same name None = refl
  name_is_same name (Some own) = r.names own name

  pub named_same : (name : Text) (d : Driver) → is_named (r.name name) (renamed.driver r d) ≡ is_named name d
  named_same name d = name_is_same name d.name

  is_none_same : (o : Option Text) → is_none (option_map r.name o) ≡ is_none o
  is_none_same None = refl
  is_none_same (Some name) = refl

  pub unnamed_same : (kind : DriverKind) (d : Driver) → is_unnamed kind (renamed.driver r d) ≡ is_unnamed kind d
  unnamed_same kind d = ap (λ (b : Bool). same_kind d.kind kind && b) (is_none_same d.name)

  pub number_same : (name : Text) (rack : List Driver) → driver_named (r.name name) (renamed.rack r rack) ≡ driver_named name rack
  number_same name rack = position_map (renamed.driver r) (is_named name) (is_named (r.name name)) (named_same name) rack

  pub numbers_same : (rack : List Driver) (names : List Text) → numbered (renamed.rack r rack) (map r.name names) ≡ numbered rack names
  numbers_same rack [] = refl
  numbers_same rack (name ∷ names) = ap₂ numbered_more (number_same name rack) (numbers_same rack names)

  -- One ask, and the end of a request ---------------------------------------------

  pub ask_same : (c : Core) (n : Node) (w : Walk) → asked (renamed.core r c) (renamed.node r n) w ≡ ask r (asked c n w)
  ask_same c n w =
      ap (λ (a : Answer). ask_driver (renamed.core r c) (renamed.node r n) w d a) (rack_reply_same (AskWhat.Irp w.minor) n.path c.rack d)
      ∙ ap (λ (name : Text). record { label = Label.Asked w.minor (r.path n.path) name (shown_of w.minor answer); core = set_rack (rack_after (AskWhat.Irp w.minor) (r.path n.path) (renamed.rack r c.rack) d) (renamed.core r c); walk = after w answer }) (name_same c.rack d)
      ∙ ap (λ (rack : List Driver). record { label = Label.Asked w.minor (r.path n.path) (r.name (name_of c.rack d)) (shown_of w.minor answer); core = set_rack rack (renamed.core r c); walk = after w answer }) (rack_after_same (AskWhat.Irp w.minor) n.path c.rack d)
    where
      d : ℕ
      d = next_driver n w

      answer : Answer
      answer = rack_reply (AskWhat.Irp w.minor) n.path c.rack d

  -- a change of a node that does not speak of paths
  pub changed_same : (k : ℕ) (f g : Node → Node) (c : Core) → ((n : Node) → g (renamed.node r n) ≡ renamed.node r (f n)) → change_node k g (renamed.core r c) ≡ renamed.core r (change_node k f c)
  changed_same k f g c e =
      ap (λ (ns : List Node). core_of ns c.relations (renamed.rack r c.rack) c.reserved)
      (changed_map (renamed.node r) (is_node k) (is_node k) f g (λ n. refl) e c.nodes)

  pub ended_same : (c : Core) (n : Node) (minor : Minor) (bad : Bool) → ended (renamed.core r c) (renamed.node r n) minor bad ≡ renamed.core r (ended c n minor bad)
  ended_same c n Start bad = changed_same n.serial _ _ c (λ m. refl)
  ended_same c n QueryRemove bad = changed_same n.serial _ _ c (λ m. refl)
  ended_same c n CancelRemove bad = changed_same n.serial _ _ c (λ m. refl)
  ended_same c n Stop bad = changed_same n.serial _ _ c (λ m. refl)
  ended_same c n QueryStop bad = changed_same n.serial _ _ c (λ m. refl)
  ended_same c n CancelStop bad = changed_same n.serial _ _ c (λ m. refl)
  ended_same c n SurpriseRemoval bad = changed_same n.serial _ _ c (λ m. refl)
  ended_same c n Remove bad =
      ap (λ (x : Core). record x { relations = Rattle.pnp_model.specs.Cores.forget n.serial c.relations }) (changed_same n.serial Rattle.pnp_model.specs.Cores.bare Rattle.pnp_model.specs.Cores.bare c (λ m. refl))
