-- What is told of files, step by step.
use Rattle.std.proofs.Common.{◌≡◌, ℕ, List, [], ◌∷◌, ◌++◌, Option, Some, None, Bool, true, false, refl, sym, ◌∙◌, ap, ◌||◌, append_assoc, append-nil, IfSome, Result, Ok, Err, subst, drop, String, Global, ◌<◌, ◌≤◌, ◌+◌, inl, inr, suc, length, get_or, map, add-one, arith, string_bytes}
use Rattle.std.proofs.lemmas.List.{drop_all}
use Rattle.std.proofs.Math.Seq.{drop-cons}
use Rattle.std.specs.List.{flat_map}
use Rattle.script_lint.specs.declared.script.BadLine.{BadLine}
use Rattle.script_lint.specs.Script.{told}
use Rattle.lint_cli.specs.Words.{texts}
use Rattle.pnp_io.specs.Outside.{Holds, HoldsMore, Rose, Appends}
use Rattle.inf_reader.specs.declared.parts.Inf.{Inf}
use Rattle.inf_reader.specs.declared.parts.InfError.{InfError}
use Rattle.lint_cli.specs.Reports.{bad_text, script_text, inf_text, IsFront}
use Rattle.lint_cli.specs.Warnings.{Known, known_of, warnings_text}
use Rattle.inf_reader.specs.Meaning.{inf}
use Rattle.lint_cli.specs.Lints.{is_bad_file, is_bad_set, is_bad_by, bad_infs, is_bad_script, is_bad_inf, is_large, some_large, is_too_large, is_reported, answer_by, Answers, IsTextBy, WroteBy, Sizes, AddsInf, AddsFile, AddsInfs, IsText, SomeRose}
use Rattle.lint_cli.specs.declared.status.Status.{Status}
use Rattle.lint_cli.specs.declared.words.Options.{Options}
use Rattle.std.proofs.lemmas.Bool.Decides.{nat_tests}

pub told_bad : (is_bad : List ℕ → Bool) (contents : Option (List ℕ → Option (List ℕ))) (name bytes : List ℕ) (b : Bool) → Holds contents name bytes → b ≡ is_bad bytes
    → IfSome contents (λ told. b ≡ is_bad_file is_bad (told name))
told_bad is_bad None name bytes b holds is = tt
told_bad is_bad (Some told) name bytes b holds is = is ∙ ap (is_bad_file is_bad) (sym holds)

pub front_same : (old new : List ℕ) → new ≡ old → IsFront old new
front_same old new is = ([], is ∙ sym (append-nil old))

pub front_more : (a b c more : List ℕ) → IsFront a b → c ≡ b ++ more → IsFront a c
front_more a b c more front is = (front.0 ++ more, is ∙ ap (λ t. t ++ more) front.1 ∙ append_assoc a front.0 more)

pub adds_read : (name old middle more new : List ℕ) (known : Known) (read : Inf) → middle ≡ old ++ warnings_text name known read → new ≡ middle ++ more
    → AddsInf name known (Ok read) old new
adds_read name old middle more new known read begun is = (more, is ∙ ap (λ t. t ++ more) begun ∙ append_assoc old (warnings_text name known read) more)

pub adds_ok : (name old new : List ℕ) (known : Known) (read : Inf) (r : Result Inf InfError) → r ≡ Ok read → AddsInf name known (Ok read) old new
    → AddsInf name known r old new
adds_ok name old new known read r is adds = subst (λ x. AddsInf name known x old new) (sym is) adds

pub adds_more : (name old middle new : List ℕ) (known : Known) (error : InfError) (r : Result Inf InfError) → r ≡ Err error → middle ≡ old ++ inf_text name error
    → IsFront middle new → AddsInf name known r old new
adds_more name old middle new known error r is begun front =
    subst (λ x. AddsInf name known x old new) (sym is)
    (front.0, front.1 ∙ ap (λ t. t ++ front.0) begun ∙ append_assoc old (inf_text name error) front.0)

pub told_file : (contents : Option (List ℕ → Option (List ℕ))) (name bytes old new : List ℕ) (known : Known) → Holds contents name bytes
    → AddsInf name known (inf bytes) old new → IfSome contents (λ told. AddsFile name known (told name) old new)
told_file None name bytes old new known holds adds = tt
told_file (Some told) name bytes old new known holds adds = subst (λ o. AddsFile name known o old new) (sym holds) adds

pub adds_next : (contents : Option (List ℕ → Option (List ℕ))) (all rest : List (List ℕ)) (known : Known) (name initial old middle : List ℕ)
    → IfSome contents (λ told. AddsFile name known (told name) old middle)
    → ((new : List ℕ) → IfSome contents (λ told. AddsInfs told known (name ∷ rest) old new → AddsInfs told known all initial new))
    → (new : List ℕ) → IfSome contents (λ told. AddsInfs told known rest middle new → AddsInfs told known all initial new)
adds_next None all rest known name initial old middle file so new = tt
adds_next (Some told) all rest known name initial old middle file so new = λ more. so new (middle, file, more)

pub adds_end : (contents : Option (List ℕ → Option (List ℕ))) (all : List (List ℕ)) (known : Known) (initial out : List ℕ)
    → ((new : List ℕ) → IfSome contents (λ told. AddsInfs told known [] out new → AddsInfs told known all initial new))
    → IfSome contents (λ told. AddsInfs told known all initial out)
adds_end None all known initial out so = tt
adds_end (Some told) all known initial out so = so out refl

-- of a script that was read, and its INFs
pub told_set_bad : (contents : Option (List ℕ → Option (List ℕ))) (name bytes : List ℕ) (infs : List (List ℕ)) (b : Bool) → Holds contents name bytes
    → IfSome contents (λ told. b ≡ (is_bad_script bytes || bad_infs told infs)) → IfSome contents (λ told. b ≡ is_bad_set told name infs)
told_set_bad None name bytes infs b holds is = tt
told_set_bad (Some told) name bytes infs b holds is = is ∙ ap (λ o. is_bad_file is_bad_script o || bad_infs told infs) (sym holds)

pub told_text : (contents : Option (List ℕ → Option (List ℕ))) (all : Bool) (name bytes out : List ℕ) (infs : List (List ℕ)) → Holds contents name bytes
    → IfSome contents (λ told. AddsInfs told (known_of all bytes) infs (script_text name bytes) out) → IfSome contents (λ told. IsText told all name (told name) infs out)
told_text None all name bytes out infs holds adds = tt
told_text (Some told) all name bytes out infs holds adds = subst (λ o. IsText told all name o infs out) (sym holds) adds

regroup : (a b c : Bool) → ((a || b) || c) ≡ (a || (b || c))
regroup true b c = refl
regroup false b c = refl

-- one INF more
pub told_next : (contents : Option (List ℕ → Option (List ℕ))) (all rest : List (List ℕ)) (name : List ℕ) (before b found : Bool)
    → found ≡ (before || b) → IfSome contents (λ told. b ≡ is_bad_file is_bad_inf (told name))
    → IfSome contents (λ told. (before || bad_infs told (name ∷ rest)) ≡ bad_infs told all)
    → IfSome contents (λ told. (found || bad_infs told rest) ≡ bad_infs told all)
told_next None all rest name before b found is bad so = tt
told_next (Some told) all rest name before b found is bad so =
    ap (λ x. x || bad_infs told rest) is ∙ regroup before b (bad_infs told rest) ∙ ap (λ y. before || (y || bad_infs told rest)) bad ∙ so

-- one bad line more
pub one_bad : (file : List ℕ) (items : List BadLine) (i : ℕ) (d : BadLine) (all old new : List ℕ) → i < length items → new ≡ old ++ bad_text file (told (get_or items i d))
    → old ++ flat_map (bad_text file) (map told (drop i items)) ≡ all → new ++ flat_map (bad_text file) (map told (drop (i + 1) items)) ≡ all
one_bad file items i d all old new less more so =
    ap (λ t. t ++ flat_map (bad_text file) (map told (drop (i + 1) items))) more
    ∙ append_assoc old (bad_text file (told (get_or items i d))) (flat_map (bad_text file) (map told (drop (i + 1) items)))
    ∙ ap (λ n. old ++ (bad_text file (told (get_or items i d)) ++ flat_map (bad_text file) (map told (drop n items)))) (add-one i)
    ∙ ap (λ l. old ++ flat_map (bad_text file) (map told l)) (sym (drop-cons items i d less)) ∙ so

-- a file that was read is not too large, and one of which more bytes came is
fits_by : (o : Option (List ℕ)) (bytes : List ℕ) → o ≡ Some bytes → length bytes ≤ 16777216 → is_large o ≡ false
fits_by o bytes e few = ap is_large e ∙ grind (arith, nat_tests, few)

pub fits : (contents : Option (List ℕ → Option (List ℕ))) (name bytes : List ℕ) → Holds contents name bytes → length bytes ≤ 16777216
    → IfSome contents (λ told. is_large (told name) ≡ false)
fits None name bytes holds few = tt
fits (Some told) name bytes holds few = fits_by (told name) bytes holds few

pub exceeds : (contents : Option (List ℕ → Option (List ℕ))) (name : List ℕ) → HoldsMore contents name 16777216 → IfSome contents (λ told. is_large (told name) ≡ true)
exceeds None name holds = tt
exceeds (Some told) name (bytes, is, more) = ap is_large is ∙ grind (arith, nat_tests, more)

-- of a script and its INFs
pub set_fits : (contents : Option (List ℕ → Option (List ℕ))) (script bytes : List ℕ) (infs : List (List ℕ)) → Holds contents script bytes → length bytes ≤ 16777216
    → IfSome contents (λ told. some_large told infs ≡ false) → IfSome contents (λ told. some_large told (script ∷ infs) ≡ false)
set_fits None script bytes infs holds few all = tt
set_fits (Some told) script bytes infs holds few all = ap (λ b. b || some_large told infs) (fits_by (told script) bytes holds few) ∙ all

pub script_large : (contents : Option (List ℕ → Option (List ℕ))) (script : List ℕ) (infs : List (List ℕ)) → IfSome contents (λ told. is_large (told script) ≡ true)
    → IfSome contents (λ told. some_large told (script ∷ infs) ≡ true)
script_large None script infs one = tt
script_large (Some told) script infs one = ap (λ b. b || some_large told infs) one

pub script_exceeds : (contents : Option (List ℕ → Option (List ℕ))) (script : List ℕ) (infs : List (List ℕ)) → HoldsMore contents script 16777216
    → IfSome contents (λ told. some_large told (script ∷ infs) ≡ true)
script_exceeds contents script infs holds = script_large contents script infs (exceeds contents script holds)

or_true : (b : Bool) → (b || true) ≡ true
or_true true = refl
or_true false = refl

pub inf_large : (contents : Option (List ℕ → Option (List ℕ))) (script : List ℕ) (infs : List (List ℕ)) → IfSome contents (λ told. some_large told infs ≡ true)
    → IfSome contents (λ told. some_large told (script ∷ infs) ≡ true)
inf_large None script infs some = tt
inf_large (Some told) script infs some = ap (λ b. is_large (told script) || b) some ∙ or_true (is_large (told script))

-- a name more that fits, or one that does not
pub fits_next : (contents : Option (List ℕ → Option (List ℕ))) (all rest : List (List ℕ)) (name : List ℕ) → IfSome contents (λ told. is_large (told name) ≡ false)
    → IfSome contents (λ told. some_large told (name ∷ rest) ≡ some_large told all) → IfSome contents (λ told. some_large told rest ≡ some_large told all)
fits_next None all rest name one so = tt
fits_next (Some told) all rest name one so = sym (ap (λ b. b || some_large told rest) one) ∙ so

pub large_next : (contents : Option (List ℕ → Option (List ℕ))) (all rest : List (List ℕ)) (name : List ℕ) → IfSome contents (λ told. is_large (told name) ≡ true)
    → IfSome contents (λ told. some_large told (name ∷ rest) ≡ some_large told all) → IfSome contents (λ told. some_large told all ≡ true)
large_next None all rest name one so = tt
large_next (Some told) all rest name one so = sym so ∙ ap (λ b. b || some_large told rest) one

-- the sizes of the files, by the answer
not_too_large : (status : Status) → is_reported status ≡ true → is_too_large status ≡ false
not_too_large Status.Clean reported = refl
not_too_large Status.Found reported = refl
not_too_large Status.BadWords reported = refl
not_too_large Status.ReadFault reported = refl
not_too_large Status.WriteFault reported = refl
not_too_large Status.WantOfMemory reported = refl
not_too_large Status.TooLarge reported = cc

pub sizes_fit : (contents : Option (List ℕ → Option (List ℕ))) (names : List (List ℕ)) (status : Status) → is_reported status ≡ true
    → IfSome contents (λ told. some_large told names ≡ false) → IfSome contents (λ told. Sizes told names status)
sizes_fit None names status reported small = tt
sizes_fit (Some told) names status reported small = small ∙ sym (not_too_large status reported)

pub sizes_exceed : (contents : Option (List ℕ → Option (List ℕ))) (names : List (List ℕ)) (status : Status) → status ≡ Status.TooLarge
    → IfSome contents (λ told. some_large told names ≡ true) → IfSome contents (λ told. Sizes told names status)
sizes_exceed None names status is large = tt
sizes_exceed (Some told) names status is large = large ∙ sym (ap is_too_large is)

-- what was written, and the answer
pub wrote_by : (contents : Option (List ℕ → Option (List ℕ))) (o : Options) (names : List (List ℕ)) (text : List ℕ) (bad : Bool) (status : Status) (old new : Option (List ℕ))
    → IfSome contents (λ told. IsTextBy o.bare o.all told names text) → IfSome contents (λ told. bad ≡ is_bad_by o.bare told names) → Appends old new text
    → status ≡ answer_by o.strict bad text → IfSome contents (λ told. WroteBy o told names status old new)
wrote_by None o names text bad status old new is_text is_bad wrote is = tt
wrote_by (Some told) o names text bad status old new is_text is_bad wrote is = (text, is_text, wrote, is ∙ ap (λ b. answer_by o.strict b text) is_bad)

-- the answer where no count rose
pub answers : (status : Status) (read write : Type 0) → (status ≡ Status.ReadFault → read) → (status ≡ Status.WriteFault → write)
    → (status ≡ Status.BadWords → ⊥) → Answers read write status
answers Status.Clean read write on_read on_write no_words = λ a b. inl refl
answers Status.Found read write on_read on_write no_words = λ a b. inl refl
answers Status.TooLarge read write on_read on_write no_words = λ a b. inl refl
answers Status.WantOfMemory read write on_read on_write no_words = λ a b. inr refl
answers Status.ReadFault read write on_read on_write no_words = λ a b. absurd (a (on_read refl))
answers Status.WriteFault read write on_read on_write no_words = λ a b. absurd (b (on_write refl))
answers Status.BadWords read write on_read on_write no_words = λ a b. absurd (no_words refl)

-- the count of a name rose, also from before
rose_before : (old middle new : ℕ) → old ≤ middle → Rose middle new → Rose old new
rose_before old middle new le (inl less) = inl (omega (arith, le, less))
rose_before old middle new le (inr top) = inr top

pub rose_first : (script : List ℕ) (infs : List (List ℕ)) (old new : List ℕ → ℕ) → Rose (old script) (new script) → SomeRose old new (script ∷ infs)
rose_first script infs old new rose = record { name = script; named = (0, omega arith, refl); rose = rose }

pub rose_behind : (script : List ℕ) (infs : List (List ℕ)) (old middle new : List ℕ → ℕ) → ((other : List ℕ) → old other ≤ middle other) → SomeRose middle new infs
    → SomeRose old new (script ∷ infs)
rose_behind script infs old middle new counts some = record {
  name = some.name;
  named = (suc some.named.0, omega (arith, some.named.1), some.named.2);
  rose = rose_before (old some.name) (middle some.name) (new some.name) (counts some.name) some.rose;
}

-- the names of a loop
pub texts_at : (names : List (String Global)) (at : ℕ) (name : String Global) (text : List ℕ) → at < length names → name ≡ get_or names at name → text ≡ string_bytes name
    → texts (drop at names) ≡ text ∷ texts (drop (at + 1) names)
texts_at names at name text within here is =
    ap (λ l. texts l) (drop-cons names at name within ∙ ap (λ n. get_or names at name ∷ drop n names) (sym (add-one at)))
    ∙ ap (λ t. t ∷ texts (drop (at + 1) names)) (ap (λ s. string_bytes s) (sym here) ∙ sym is)

pub texts_end : (names : List (String Global)) (at : ℕ) → length names ≤ at → texts (drop at names) ≡ []
texts_end names at all = ap (λ l. texts l) (drop_all at names all)
