-- What came of a state file.
use Rattle.std.specs.Prelude.{ℕ, ◌≡◌, Bool, true, List}
use Rattle.state_file.specs.declared.attached.Attached.{Attached}
use Rattle.state_file.specs.declared.attached.Attached.TheVariants.{Fresh, Loaded, Other}
use Rattle.state_file.specs.Layout.{Layout, IsOpenFile, IsThisFrame}
use Rattle.state_file.specs.Opening.{IsFresh, IsOther}

-- how the file stands in all that a crash may leave
abbrev pub IsLeft : Layout → List ℕ → List ℕ → Attached → Type 0
IsLeft l image c Fresh = IsFresh l c
IsLeft l image c Loaded = IsThisFrame l c × (image ≡ c)
IsLeft l image c (Other place kept) = Unit {0}

-- what the file was as it was read
abbrev pub IsAttached : Layout → Bool → List ℕ → List ℕ → Attached → Type 0
IsAttached l resume image c Fresh = resume ≡ true → ¬ (IsOpenFile c)
IsAttached l resume image c Loaded = (resume ≡ true) × IsThisFrame l c × (image ≡ c)
IsAttached l resume image c (Other place kept) = (resume ≡ true) × IsOther l c place kept

-- it was made anew
abbrev pub IsRenewed : Attached → Type 0
IsRenewed Fresh = Unit {0}
IsRenewed Loaded = ⊥
IsRenewed (Other place kept) = ⊥

-- it is another frame's
abbrev pub IsForeign : Attached → Type 0
IsForeign Fresh = ⊥
IsForeign Loaded = ⊥
IsForeign (Other place kept) = Unit {0}
