-- What a status says, from what was seen and what the files hold.
use Rattle.std.proofs.Common.{ℕ, ◌≡◌, true, inl, inr, List, [], ◌∷◌, Option, Some, None, Result, map, refl, sym, ap, ◌∙◌, subst, Vec, Global}
use Rattle.inf_reader.specs.declared.parts.Inf.{Inf}
use Rattle.inf_reader.specs.declared.parts.InfError.{InfError}
use Rattle.inf_reader.specs.Meaning.{inf}
use Rattle.pnp_io.specs.Outside.{Holds}
use Rattle.pnp_labels.specs.Texts.{Text}
use Rattle.pnp_labels.specs.declared.words.DriverKind.{DriverKind}
use Rattle.pnp_model.specs.Records.{Settings}
use Rattle.script_reader.specs.Script.{trace}
use Rattle.start_sequence.specs.Begins.{settings_of}
use Rattle.free_model.specs.Checks.{Yes, No}
use Rattle.front_check.specs.FrontChecks.{beginning}
use Rattle.front_check.proofs.Clientless.{same_checks}
use Rattle.trace_hint.specs.declared.allowed.Seen.{Seen}
use Rattle.trace_hint.specs.Hints.{AreRead}
use Rattle.check_cli.specs.Checks.{program_kinds, texts, HoldAll, status_of, IsLooked, IsLookedOf, Says, SaysNamed}

abbrev the_some : Text → Option Text
the_some text = Some text

says_looked : (told : Settings) (kinds : List DriverKind) (script text : Text) (seen : Seen) → IsLooked told kinds script text seen → Says told (beginning kinds (trace true 0 script)) text (status_of seen)
says_looked told kinds script text Seen.Yes (inl (none, h)) = (same_checks told kinds (trace true 0 script) text Yes none).0 h
says_looked told kinds script text (Seen.No line allowed) (inl (none, h)) =
    (line, (same_checks told kinds (trace true 0 script) text (No line) none).0 (h.lines, h.there, h.rest, h.follow, h.is, h.stuck, h.number))
says_looked told kinds script text Seen.Yes (inr h) = h
says_looked told kinds script text (Seen.No line allowed) (inr h) = (line, (h.lines, h.there, h.rest, h.follow, h.is, h.stuck, h.number))

one_some : (a b : Text) (o : Option Text) → o ≡ Some a → o ≡ Some b → a ≡ b
one_some a b o e f = let both : (the_some a) ≡ Some b = sym e ∙ f in cc

all_some : (a b : List Text) → map (λ (t : Text). the_some t) a ≡ map (λ (t : Text). the_some t) b → a ≡ b
all_some [] [] e = refl
all_some [] (y ∷ b) e = absurd (cc)
all_some (x ∷ a) [] e = absurd (cc)
all_some (x ∷ a) (y ∷ b) e = let rest : a ≡ b = all_some a b (cc) in cc

meanings : (infs : List (Vec ℕ Global)) → map (λ bytes. inf bytes) (texts infs) ≡ map (λ (bytes : Vec ℕ Global). inf bytes.items) infs
meanings [] = refl
meanings (bytes ∷ infs) = ap (λ (t : List (Result Inf InfError)). inf bytes.items ∷ t) (meanings infs)

says_text : (text other script own : Text) (infs : List (Vec ℕ Global)) (budget : ℕ) (seen : Seen) (read : List Inf) → text ≡ other → script ≡ own → IsLookedOf infs text script budget seen → AreRead infs read
    → Says (settings_of read budget) (beginning program_kinds (trace true 0 own)) other (status_of seen)
says_text text other script own infs budget seen read e f is are =
    subst (λ (t : Text). Says (settings_of read budget) (beginning program_kinds (trace true 0 own)) t (status_of seen)) e
    (subst (λ (s : Text). Says (settings_of read budget) (beginning program_kinds (trace true 0 s)) text (status_of seen)) f
    (says_looked (settings_of read budget) program_kinds script text seen (is read are)))

pub says_named : (contents : Option (List ℕ → Option (List ℕ))) (trace_name script_name : Text) (names : List Text) (infs : List (Vec ℕ Global)) (text script : Text) (budget : ℕ) (seen : Seen)
    → HoldAll contents names (texts infs) → Holds contents trace_name text → Holds contents script_name script → IsLookedOf infs text script budget seen
    → SaysNamed contents trace_name script_name names budget (status_of seen)
says_named None trace_name script_name names infs text script budget seen hold holds too is = tt
says_named (Some told) trace_name script_name names infs text script budget seen hold holds too is = λ other own all read told_text told_script told_all are.
    let same : all ≡ texts infs = all_some all (texts infs) (sym told_all ∙ hold) in
    says_text text other script own infs budget seen read (one_some text other (told trace_name) holds told_text) (one_some script own (told script_name) too told_script) is
    (sym (ap (λ (t : List Text). map (λ bytes. inf bytes) t) same ∙ meanings infs) ∙ are)

pub looked_of : (infs given : List (Vec ℕ Global)) (script script_given text text_given : Text) (kinds : List DriverKind) (budget : ℕ) (seen : Seen) → given ≡ infs → script_given ≡ script → text_given ≡ text
    → kinds ≡ program_kinds → ((read : List Inf) → AreRead given read → IsLooked (settings_of read budget) kinds script_given text_given seen) → IsLookedOf infs text script budget seen
looked_of infs given script script_given text text_given kinds budget seen e f g k is = λ read are.
    subst (λ (t : Text). IsLooked (settings_of read budget) program_kinds script t seen) g
    (subst (λ (s : Text). IsLooked (settings_of read budget) program_kinds s text_given seen) f
    (subst (λ (l : List DriverKind). IsLooked (settings_of read budget) l script_given text_given seen) k
    (is read (subst (λ (l : List (Vec ℕ Global)). AreRead l read) (sym e) are))))
