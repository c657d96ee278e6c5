-- Answers that may fail.
use Rattle.std.specs.Prelude.{◌≡◌, Result, Ok, Err}
use Rattle.options.specs.declared.fault.OptionFault.{OptionFault}
use Rattle.options.specs.declared.fault.OptionFault.TheVariants.{TextFault, NoMemory}

infixl 10 ◌>>=◌
abbrev pub ◌>>=◌ : {A B E : Type 0} → Result A E → (A → Result B E) → Result B E
Ok x >>= f = f x
Err e >>= f = Err e

-- an answer is what was meant, unless there is no memory
abbrev pub Answers : {A : Type 0} → Result A OptionFault → Result A OptionFault → Type 0
Answers meant (Ok x) = meant ≡ Ok x
Answers meant (Err TextFault) = ⊥
Answers meant (Err NoMemory) = Unit {0}
Answers meant (Err fault) = meant ≡ Err fault

-- an answer is what was meant, unless an INI file can't be read
abbrev pub Reads : {A : Type 0} → Result A OptionFault → Result A OptionFault → Type 0
Reads meant (Err TextFault) = Unit {0}
Reads meant got = Answers meant got
