-- The command of the program, which words it takes, and what they say.
use Rattle.std.specs.Prelude.{ℕ, ◌+◌, ◌*◌, ◌-◌, ◌&&◌, nat_le, length, map, if◌then◌else◌, Bool, true, false, List, [], ◌∷◌, Option, Some, None, option_map, codes, unwrap_or, String, string_bytes}
use Rattle.std.specs.Global.{Global}
use Rattle.clap.specs.Walk.{Row, Rule, Text, first_of, all_of}
use Rattle.clap.specs.Simple.{App, matches_of, new_app, new_rule, on_top, with_rule}
use Rattle.clap.specs.Faults.{fault_of}
use Rattle.clap.specs.Kinds.{Kinds}
use Rattle.clap.specs.declared.builder.action.ArgAction.TheVariants.{Append}
use Rattle.pnp_cli.specs.declared.parts.Settings.{Settings}

-- the bytes of each word
abbrev pub texts : List (String Global) → List Text
texts words = map (λ word. string_bytes word) words

abbrev pub budget_rule : Rule
budget_rule = record (new_rule (codes "budget")) { long = Some (codes "budget") }

abbrev pub gen_rule : Rule
gen_rule = record (new_rule (codes "gen")) { long = Some (codes "gen") }

abbrev pub check_rule : Rule
check_rule = record (new_rule (codes "check")) { long = Some (codes "check") }

abbrev pub script_rule : Rule
script_rule = new_rule (codes "script")

abbrev pub inf_rule : Rule
inf_rule = record (new_rule (codes "inf")) { action = Some Append }

-- a command without a flag for help
abbrev pub bare : App
bare = on_top (λ s. record s { disable_help_flag = true }) (new_app (codes "pnpmgr"))

-- three options with a value each
abbrev pub options : App
options = with_rule (with_rule (with_rule bare budget_rule) gen_rule) check_rule

-- these, one word for the script, and then any number of words for INFs
abbrev pub pnpmgr : App
pnpmgr = with_rule (with_rule options script_rule) inf_rule

abbrev pub has_none : Kinds → Bool
has_none [] = true
has_none (k ∷ ks) = false

-- the command refuses the words for no cause
abbrev pub is_accepted : List Text → Bool
is_accepted words = has_none (fault_of pnpmgr words)

abbrev pub is_digit : ℕ → Bool
is_digit b = nat_le 48 b && nat_le b 57

abbrev pub digits_from : ℕ → List ℕ → Option ℕ
digits_from n [] = Some n
digits_from n (b ∷ bs) = if is_digit b then digits_from (n * 10 + (b - 48)) bs else None

-- a number is one to seven decimal digits
abbrev pub number_of : Text → Option ℕ
number_of text = if nat_le 1 (length text) && nat_le (length text) 7 then digits_from 0 text else None

-- a number from 1 to this one
abbrev pub within : ℕ → Option ℕ → Option ℕ
within most None = None
within most (Some n) = if nat_le 1 n && nat_le n most then Some n else None

-- a budget is a number from 1 to 1,000,000; without the option it is 20,000
abbrev pub budget_of : Option Text → Option ℕ
budget_of None = Some 20000
budget_of (Some text) = within 1000000 (number_of text)

-- how many devices are to be generated, from 1 to 400, where the option is given
abbrev pub made_of : Option Text → Option (Option ℕ)
made_of None = Some None
made_of (Some text) = option_map (λ n. Some n) (within 400 (number_of text))

abbrev pub infs_of : List Row → List Text
infs_of rows = unwrap_or (all_of (codes "inf") rows) []

-- the budget is good, and either a script is named, with a trace to check or without, or a good number of devices is to be generated
abbrev pub given : Option Text → List Text → Option ℕ → Option (Option ℕ) → Option Text → Option Settings
given (Some script) infs (Some budget) (Some None) check = Some (record { script = Some script; infs = infs; budget = budget; made = None; check = check })
given None infs (Some budget) (Some (Some n)) None = Some (record { script = None; infs = infs; budget = budget; made = Some n; check = None })
given _ infs _ _ _ = None

-- what was found gives settings where its parts are good and at most 64 INFs are named
abbrev pub parts_of : List Row → Option Settings
parts_of rows = if nat_le (length (infs_of rows)) 64
    then given (first_of (codes "script") rows) (infs_of rows) (budget_of (first_of (codes "budget") rows)) (made_of (first_of (codes "gen") rows)) (first_of (codes "check") rows)
    else None

-- The settings that the words of a command line give, or none where they are refused; the first word is the program's name.
abbrev pub settings_of : List Text → Option Settings
settings_of [] = None
settings_of (program ∷ words) = if is_accepted (program ∷ words) then parts_of (matches_of pnpmgr (program ∷ words)) else None
