-- The generated script and the generated INF.
use Rattle.std.specs.Prelude.{ℕ, zero, suc, ◌+◌, ◌*◌, ◌-◌, ◌/◌, ◌%◌, ◌==◌, List, [], ◌∷◌, ◌++◌, codes, if◌then◌else◌}
use Rattle.std.specs.Fmt.{decimal}

-- a line of these bytes
abbrev pub line : List ℕ → List ℕ
line bytes = bytes ++ 10 ∷ []

-- the first of eight ports of its own, for the j-th of those that need one place
abbrev pub own_port : ℕ → ℕ
own_port j = 4096 + 8 * (j - 1)

-- what it needs: that place
abbrev pub own_need : ℕ → List ℕ
own_need j = codes "need=port:" ++ decimal (own_port j) ++ codes "-" ++ decimal (own_port j + 7) ++ codes "/8@8"

-- what all others need: any eight ports, and an interrupt that is shared
abbrev pub any_need : List ℕ
any_need = codes "need=port:4096-65535/8@8;irq:16-23:shared"

-- every fiftieth device needs one place
abbrev pub need_of : ℕ → List ℕ
need_of k = if k % 50 == 0 then own_need (k / 50) else any_need

-- the line of the k-th device
abbrev pub device_line : ℕ → List ℕ
device_line k = line (codes "plug GEN\\BUS\\0 GEN\\DEV " ++ decimal k ++ codes " " ++ need_of k)

-- the lines of the devices from the first to the k-th
abbrev pub device_lines : ℕ → List ℕ
device_lines zero = []
device_lines (suc k) = device_lines k ++ device_line (suc k)

-- two drivers and the bus
abbrev pub head : List ℕ
head = line (codes "driver bus steady") ++ line (codes "driver dev steady") ++ line (codes "plug HTREE\\ROOT\\0 GEN\\BUS 0")

-- the generated script of so many devices
unfoldable pub gen_script : ℕ → List ℕ
gen_script n = head ++ device_lines n

-- the generated INF
unfoldable pub gen_inf : List ℕ
gen_inf =
    line (codes "[Version]") ++ line (codes "Signature=\"$Windows NT$\"") ++ line (codes "[Manufacturer]") ++ line (codes "Gen=M") ++ line (codes "[M]")
    ++ line (codes "Bus=B,GEN\\BUS") ++ line (codes "Dev=D,GEN\\DEV") ++ line (codes "[B.Services]") ++ line (codes "AddService=bus,2,S")
    ++ line (codes "[D.Services]") ++ line (codes "AddService=dev,2,S")
