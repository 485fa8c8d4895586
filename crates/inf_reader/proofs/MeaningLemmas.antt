-- The meaning, from what each pass over the text gave.
use mathlib.Core.Path.{fun_ext}
use Rattle.std.proofs.Common.{◌≡◌, ◌++◌, ℕ, List, Option, Result, ap, sym, subst, ◌∙◌}
use Rattle.std.specs.List.{flat_map}
use Rattle.inf_reader.specs.declared.items.Item.{Item}
use Rattle.inf_reader.specs.declared.parts.Inf.{Inf}
use Rattle.inf_reader.specs.declared.parts.InfError.{InfError}
use Rattle.inf_reader.specs.Tokens.{Strings}
use Rattle.inf_reader.specs.Sections.{Sections, strings_of, sections_of, entries_of}
use Rattle.inf_reader.specs.Meaning.{Gives, judged, earlier, least_of, mark_of, score_fault, date_fault, driver_entry, makers_of, faults_of, meaning_by, meaning_of}
use Rattle.inf_reader.proofs.Least.{earlier-assoc, least_of-append}

-- the first of all faults, from the first of each kind
least_of-faults : (strings : Strings) (items : List Item)
    → earlier (earlier (least_of (flat_map mark_of items)) (least_of (flat_map score_fault (entries_of strings items)))) (least_of (date_fault (driver_entry (sections_of strings items)))) ≡ least_of (faults_of strings items)
least_of-faults strings items =
    let marks = flat_map mark_of items in
    let scores = flat_map score_fault (entries_of strings items) in
    let dates = date_fault (driver_entry (sections_of strings items)) in
    earlier-assoc (least_of marks) (least_of scores) (least_of dates)
    ∙ (ap (earlier (least_of marks)) (sym (least_of-append scores dates)) ∙ sym (least_of-append marks (scores ++ dates)))

judged_is : (items : List Item) (strings : Strings) (sections : Sections) (makers : List (List ℕ)) (mark bad : Option InfError)
    → mark ≡ least_of (flat_map mark_of items) → bad ≡ least_of (flat_map score_fault (entries_of strings items)) → makers ≡ makers_of strings items → ((q : List ℕ) → sections q ≡ sections_of strings items q)
    → judged sections makers (earlier (earlier mark bad) (least_of (date_fault (driver_entry sections)))) ≡ meaning_by strings items
unfolding meaning_by
judged_is items strings sections makers mark bad is_mark is_bad are_makers are_sections =
    let by_sections = ap (λ s. judged s makers (earlier (earlier mark bad) (least_of (date_fault (driver_entry s))))) (fun_ext are_sections) in
    let meant = sections_of strings items in
    let date = least_of (date_fault (driver_entry meant)) in
    by_sections
    ∙ (ap (λ m. judged meant m (earlier (earlier mark bad) date)) are_makers
    ∙ (ap (λ f. judged meant (makers_of strings items) (earlier (earlier f bad) date)) is_mark
    ∙ (ap (λ f. judged meant (makers_of strings items) (earlier (earlier (least_of (flat_map mark_of items)) f) date)) is_bad
    ∙ ap (judged meant (makers_of strings items)) (least_of-faults strings items))))

pub meaning_is : (items : List Item) (strings : Strings) (sections : Sections) (makers : List (List ℕ)) (mark bad : Option InfError) (result : Result Inf InfError)
    → ((q : List ℕ) → strings q ≡ strings_of items q)
    → mark ≡ least_of (flat_map mark_of items) → bad ≡ least_of (flat_map score_fault (entries_of strings items)) → makers ≡ makers_of strings items → ((q : List ℕ) → sections q ≡ sections_of strings items q)
    → Gives result (judged sections makers (earlier (earlier mark bad) (least_of (date_fault (driver_entry sections))))) → Gives result (meaning_of items)
unfolding meaning_of
meaning_is items strings sections makers mark bad result are_strings is_mark is_bad are_makers are_sections gives =
    let e : judged sections makers (earlier (earlier mark bad) (least_of (date_fault (driver_entry sections)))) ≡ meaning_of items =
    judged_is items strings sections makers mark bad is_mark is_bad are_makers are_sections
    ∙ ap (λ s. meaning_by s items) (fun_ext are_strings) in
    let P : Result Inf InfError → Type 0 = λ r. Gives result r in
    subst P e gives
