-- The names of picture files. (Reference manual, output file name)
use Rattle.std.specs.Prelude.{ℕ, ◌+◌, ◌-◌, ◌==◌, if◌then◌else◌, List, [], ◌∷◌, ◌++◌, length, take, drop, reverse, codes}
use Rattle.image_out.specs.declared.picture.Sort.{Sort}
use Rattle.image_out.specs.declared.picture.Sort.TheVariants.{Ppm, Targa, TargaRle}

-- how many bytes are left, with it, where this mark is found
abbrev pub left_of : ℕ → List ℕ → ℕ
left_of mark [] = 0
left_of mark (b ∷ s) = if b == mark then 1 + length s else left_of mark s

-- how many bytes stand up to the last mark of a text, and with it; 0 where there is none
abbrev pub front_length : ℕ → List ℕ → ℕ
front_length mark s = left_of mark (reverse s)

-- a name up to its last dot
abbrev pub stem_of : List ℕ → List ℕ
stem_of name = if front_length 46 name == 0 then name else take (front_length 46 name - 1) name

-- the last dot of a name, and what stands behind it
abbrev pub extension_of : List ℕ → List ℕ
extension_of name = if front_length 46 name == 0 then [] else drop (front_length 46 name - 1) name

abbrev pub sort_extension : Sort → List ℕ
sort_extension Ppm = codes ".ppm"
sort_extension Targa = codes ".tga"
sort_extension TargaRle = codes ".tga"

-- the picture's name: the one asked for, with the extension of its sort where it has none, or that of the scene
abbrev pub image_name : Sort → List ℕ → List ℕ → List ℕ
image_name sort input output =
    if length output == 0 then stem_of input ++ sort_extension sort
    else (if front_length 46 output == 0 then output ++ sort_extension sort else output)
