-- What the reader's maps hold, as functions of the bytes of a key.
use Rattle.std.specs.Prelude.{◌≡◌, ℕ, List, Option, Some}
use Rattle.inf_reader.specs.declared.tokens.Strings.{Strings}
use Rattle.inf_reader.specs.declared.sections.Sections.{Sections}
use Rattle.inf_reader.specs.declared.models.Installs.{Installs}
use Rattle.inf_reader.specs.Maps.{by_key}
use Rattle.inf_reader.specs.Numbers.{or_else}
use Rattle.inf_reader.specs.Sections as meant
use Rattle.inf_reader.specs.Models.{install_of}

abbrev pub text_found : Strings → List ℕ → Option (List ℕ)
text_found strings = by_key strings.texts

abbrev pub section_found : Sections → List ℕ → Option meant.Contents
section_found sections = by_key sections.sections

-- what was kept of an install section is what it gives
abbrev pub IsKept : meant.Sections → Installs → Type 0
IsKept sections installs = (name : List ℕ) → or_else (by_key installs.kept name) (Some (install_of sections name)) ≡ Some (install_of sections name)
