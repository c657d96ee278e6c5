-- The switches and INI names: which one a word begins with, by its first letter. (Reference manual, command-line options
-- and INI files)
use Rattle.std.specs.Prelude.{ℕ, Bool, ◌==◌, if◌then◌else◌, List, [], ◌∷◌, length, Option, Some, None}
use Rattle.options.specs.declared.table.Reading.{Reading}
use Rattle.options.specs.declared.table.Switch.{Switch}
use Rattle.options.specs.declared.table.TheConstants.{A_SWITCHES, C_SWITCHES, D_SWITCHES, E_SWITCHES, F_SWITCHES, G_SWITCHES, H_SWITCHES, I_SWITCHES, J_SWITCHES, K_SWITCHES, L_SWITCHES, O_SWITCHES, P_SWITCHES, Q_SWITCHES, R_SWITCHES, S_SWITCHES, U_SWITCHES, V_SWITCHES, W_SWITCHES, A_NAMES, B_NAMES, C_NAMES, D_NAMES, F_NAMES, H_NAMES, I_NAMES, L_NAMES, O_NAMES, P_NAMES, Q_NAMES, S_NAMES, T_NAMES, V_NAMES, W_NAMES}
use Rattle.options.specs.Values.{lower, begins, is_spelled}

-- the first switch of a table that begins the letters behind a sign
abbrev pub switch_in : {E : Type 0} → (E → List ℕ) → (E → Reading) → (E → Reading) → Bool → List ℕ → List E → Option Switch
switch_in switch plus minus is_minus letters [] = None
switch_in switch plus minus is_minus letters (entry ∷ entries) =
    if begins (switch entry) letters
    then Some (record { reading = if is_minus then minus entry else plus entry; length = length (switch entry) })
    else switch_in switch plus minus is_minus letters entries

-- the longest switch that begins the letters behind a sign: each table holds the switches of one letter, longer ones first
abbrev pub switch_at : ℕ → Bool → List ℕ → Option Switch
switch_at letter is_minus letters =
    if letter == 97 then switch_in (λ entry. entry.0.now) (λ entry. entry.1) (λ entry. entry.2) is_minus letters A_SWITCHES
    else (if letter == 99 then switch_in (λ entry. entry.0.now) (λ entry. entry.1) (λ entry. entry.2) is_minus letters C_SWITCHES
    else (if letter == 100 then switch_in (λ entry. entry.0.now) (λ entry. entry.1) (λ entry. entry.2) is_minus letters D_SWITCHES
    else (if letter == 101 then switch_in (λ entry. entry.0.now) (λ entry. entry.1) (λ entry. entry.2) is_minus letters E_SWITCHES
    else (if letter == 102 then switch_in (λ entry. entry.0.now) (λ entry. entry.1) (λ entry. entry.2) is_minus letters F_SWITCHES
    else (if letter == 103 then switch_in (λ entry. entry.0.now) (λ entry. entry.1) (λ entry. entry.2) is_minus letters G_SWITCHES
    else (if letter == 104 then switch_in (λ entry. entry.0.now) (λ entry. entry.1) (λ entry. entry.2) is_minus letters H_SWITCHES
    else (if letter == 105 then switch_in (λ entry. entry.0.now) (λ entry. entry.1) (λ entry. entry.2) is_minus letters I_SWITCHES
    else (if letter == 106 then switch_in (λ entry. entry.0.now) (λ entry. entry.1) (λ entry. entry.2) is_minus letters J_SWITCHES
    else (if letter == 107 then switch_in (λ entry. entry.0.now) (λ entry. entry.1) (λ entry. entry.2) is_minus letters K_SWITCHES
    else (if letter == 108 then switch_in (λ entry. entry.0.now) (λ entry. entry.1) (λ entry. entry.2) is_minus letters L_SWITCHES
    else (if letter == 111 then switch_in (λ entry. entry.0.now) (λ entry. entry.1) (λ entry. entry.2) is_minus letters O_SWITCHES
    else (if letter == 112 then switch_in (λ entry. entry.0.now) (λ entry. entry.1) (λ entry. entry.2) is_minus letters P_SWITCHES
    else (if letter == 113 then switch_in (λ entry. entry.0.now) (λ entry. entry.1) (λ entry. entry.2) is_minus letters Q_SWITCHES
    else (if letter == 114 then switch_in (λ entry. entry.0.now) (λ entry. entry.1) (λ entry. entry.2) is_minus letters R_SWITCHES
    else (if letter == 115 then switch_in (λ entry. entry.0.now) (λ entry. entry.1) (λ entry. entry.2) is_minus letters S_SWITCHES
    else (if letter == 117 then switch_in (λ entry. entry.0.now) (λ entry. entry.1) (λ entry. entry.2) is_minus letters U_SWITCHES
    else (if letter == 118 then switch_in (λ entry. entry.0.now) (λ entry. entry.1) (λ entry. entry.2) is_minus letters V_SWITCHES
    else (if letter == 119 then switch_in (λ entry. entry.0.now) (λ entry. entry.1) (λ entry. entry.2) is_minus letters W_SWITCHES
    else None))))))))))))))))))

abbrev pub switch_of : Bool → List ℕ → Option Switch
switch_of is_minus [] = None
switch_of is_minus (b ∷ rest) = switch_at (lower b) is_minus (b ∷ rest)

-- how the value of the first name of a table is read that is spelled like the text
abbrev pub name_in : {E : Type 0} → (E → List ℕ) → (E → Reading) → List ℕ → List E → Option Reading
name_in name reading text [] = None
name_in name reading text (entry ∷ entries) =
    if is_spelled (name entry) text then Some (reading entry) else name_in name reading text entries

-- how the value of an INI name is read
abbrev pub name_at : ℕ → List ℕ → Option Reading
name_at letter text =
    if letter == 97 then name_in (λ entry. entry.0.now) (λ entry. entry.1) text A_NAMES
    else (if letter == 98 then name_in (λ entry. entry.0.now) (λ entry. entry.1) text B_NAMES
    else (if letter == 99 then name_in (λ entry. entry.0.now) (λ entry. entry.1) text C_NAMES
    else (if letter == 100 then name_in (λ entry. entry.0.now) (λ entry. entry.1) text D_NAMES
    else (if letter == 102 then name_in (λ entry. entry.0.now) (λ entry. entry.1) text F_NAMES
    else (if letter == 104 then name_in (λ entry. entry.0.now) (λ entry. entry.1) text H_NAMES
    else (if letter == 105 then name_in (λ entry. entry.0.now) (λ entry. entry.1) text I_NAMES
    else (if letter == 108 then name_in (λ entry. entry.0.now) (λ entry. entry.1) text L_NAMES
    else (if letter == 111 then name_in (λ entry. entry.0.now) (λ entry. entry.1) text O_NAMES
    else (if letter == 112 then name_in (λ entry. entry.0.now) (λ entry. entry.1) text P_NAMES
    else (if letter == 113 then name_in (λ entry. entry.0.now) (λ entry. entry.1) text Q_NAMES
    else (if letter == 115 then name_in (λ entry. entry.0.now) (λ entry. entry.1) text S_NAMES
    else (if letter == 116 then name_in (λ entry. entry.0.now) (λ entry. entry.1) text T_NAMES
    else (if letter == 118 then name_in (λ entry. entry.0.now) (λ entry. entry.1) text V_NAMES
    else (if letter == 119 then name_in (λ entry. entry.0.now) (λ entry. entry.1) text W_NAMES
    else None))))))))))))))

abbrev pub name_of : List ℕ → Option Reading
name_of [] = None
name_of (b ∷ rest) = name_at (lower b) (b ∷ rest)
