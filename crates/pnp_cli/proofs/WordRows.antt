-- The settings of some words that are written out.
use Rattle.std.proofs.Common.{◌≡◌, refl, codes, [], ◌∷◌, Some, None, false}
use Rattle.clap.proofs.OnLiterals.{clap_on_literals}
use Rattle.pnp_cli.specs.Words.{settings_of, is_accepted}

pub all_given : settings_of (codes "p" ∷ codes "--budget" ∷ codes "7" ∷ codes "s" ∷ codes "i" ∷ codes "j" ∷ []) ≡ Some (record { script = Some (codes "s"); infs = codes "i" ∷ codes "j" ∷ []; budget = 7; made = None; check = None })
unfolding clap_on_literals
all_given = refl

pub with_equals : settings_of (codes "p" ∷ codes "s" ∷ codes "--budget=12" ∷ codes "i" ∷ []) ≡ Some (record { script = Some (codes "s"); infs = codes "i" ∷ []; budget = 12; made = None; check = None })
unfolding clap_on_literals
with_equals = refl

pub script_alone : settings_of (codes "p" ∷ codes "s" ∷ []) ≡ Some (record { script = Some (codes "s"); infs = []; budget = 20000; made = None; check = None })
unfolding clap_on_literals
script_alone = refl

pub no_script : settings_of (codes "p" ∷ []) ≡ None
unfolding clap_on_literals
no_script = refl

pub no_word : settings_of [] ≡ None
no_word = refl

pub after_dashes : settings_of (codes "p" ∷ codes "--" ∷ codes "--budget" ∷ []) ≡ Some (record { script = Some (codes "--budget"); infs = []; budget = 20000; made = None; check = None })
unfolding clap_on_literals
after_dashes = refl

pub twice : is_accepted (codes "p" ∷ codes "--budget" ∷ codes "7" ∷ codes "--budget" ∷ codes "7" ∷ codes "s" ∷ []) ≡ false
unfolding clap_on_literals
twice = refl

pub no_value : is_accepted (codes "p" ∷ codes "s" ∷ codes "--budget" ∷ []) ≡ false
unfolding clap_on_literals
no_value = refl

pub empty_value : settings_of (codes "p" ∷ codes "s" ∷ codes "--budget=" ∷ []) ≡ None
unfolding clap_on_literals
empty_value = refl

pub dash_value : is_accepted (codes "p" ∷ codes "--budget" ∷ codes "-1" ∷ codes "s" ∷ []) ≡ false
unfolding clap_on_literals
dash_value = refl

pub zero : settings_of (codes "p" ∷ codes "--budget" ∷ codes "0" ∷ codes "s" ∷ []) ≡ None
unfolding clap_on_literals
zero = refl

pub greatest : settings_of (codes "p" ∷ codes "--budget" ∷ codes "1000000" ∷ codes "s" ∷ []) ≡ Some (record { script = Some (codes "s"); infs = []; budget = 1000000; made = None; check = None })
unfolding clap_on_literals
greatest = refl

pub too_great : settings_of (codes "p" ∷ codes "--budget" ∷ codes "1000001" ∷ codes "s" ∷ []) ≡ None
unfolding clap_on_literals
too_great = refl

pub letter : settings_of (codes "p" ∷ codes "--budget" ∷ codes "x" ∷ codes "s" ∷ []) ≡ None
unfolding clap_on_literals
letter = refl

pub leading_zeros : settings_of (codes "p" ∷ codes "--budget" ∷ codes "0000007" ∷ codes "s" ∷ []) ≡ Some (record { script = Some (codes "s"); infs = []; budget = 7; made = None; check = None })
unfolding clap_on_literals
leading_zeros = refl

pub eight_digits : settings_of (codes "p" ∷ codes "--budget" ∷ codes "00000007" ∷ codes "s" ∷ []) ≡ None
unfolding clap_on_literals
eight_digits = refl

pub help : is_accepted (codes "p" ∷ codes "--help" ∷ []) ≡ false
unfolding clap_on_literals
help = refl

pub short : is_accepted (codes "p" ∷ codes "-h" ∷ codes "s" ∷ []) ≡ false
unfolding clap_on_literals
short = refl

pub unknown : is_accepted (codes "p" ∷ codes "--made" ∷ codes "3" ∷ codes "s" ∷ []) ≡ false
unfolding clap_on_literals
unknown = refl

pub made : settings_of (codes "p" ∷ codes "--gen" ∷ codes "50" ∷ []) ≡ Some (record { script = None; infs = []; budget = 20000; made = Some 50; check = None })
unfolding clap_on_literals
made = refl

pub made_and_budget : settings_of (codes "p" ∷ codes "--budget" ∷ codes "7" ∷ codes "--gen=400" ∷ []) ≡ Some (record { script = None; infs = []; budget = 7; made = Some 400; check = None })
unfolding clap_on_literals
made_and_budget = refl

pub made_too_many : settings_of (codes "p" ∷ codes "--gen" ∷ codes "401" ∷ []) ≡ None
unfolding clap_on_literals
made_too_many = refl

pub made_none : settings_of (codes "p" ∷ codes "--gen" ∷ codes "0" ∷ []) ≡ None
unfolding clap_on_literals
made_none = refl

pub made_and_named : settings_of (codes "p" ∷ codes "--gen" ∷ codes "3" ∷ codes "s" ∷ []) ≡ None
unfolding clap_on_literals
made_and_named = refl

pub checked : settings_of (codes "p" ∷ codes "--check" ∷ codes "t" ∷ codes "s" ∷ codes "i" ∷ []) ≡ Some (record { script = Some (codes "s"); infs = codes "i" ∷ []; budget = 20000; made = None; check = Some (codes "t") })
unfolding clap_on_literals
checked = refl

pub checked_alone : settings_of (codes "p" ∷ codes "--check=t" ∷ []) ≡ None
unfolding clap_on_literals
checked_alone = refl

pub checked_and_made : settings_of (codes "p" ∷ codes "--gen" ∷ codes "3" ∷ codes "--check" ∷ codes "t" ∷ []) ≡ None
unfolding clap_on_literals
checked_and_made = refl

pub checked_twice : is_accepted (codes "p" ∷ codes "--check" ∷ codes "t" ∷ codes "--check" ∷ codes "t" ∷ codes "s" ∷ []) ≡ false
unfolding clap_on_literals
checked_twice = refl
