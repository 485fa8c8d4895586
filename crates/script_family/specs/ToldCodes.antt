-- What a contract sees of a family, as a pair of lists.
use Rattle.std.specs.Prelude.{ℕ, List, refl}
use Rattle.std.specs.Coded.{Coded, code_by, coded×, coded_ℕ, coded_list}
use Rattle.script_family.specs.Families.{Family}
use Rattle.script_family.specs.Codes.{family_code}
use Rattle.script_family.specs.Reads.{Told}

abbrev pub told_code : Coded Told
told_code =
    code_by (List ℕ × Family) (coded× (coded_list coded_ℕ) family_code) (λ t. (t.text, t.family)) (λ p. record { text = p.0; family = p.1 }) (λ _. refl)
