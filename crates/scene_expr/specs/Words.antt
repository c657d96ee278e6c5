-- The words that an expression may begin with. (Reference manual, float and vector expressions and functions, and colours)
use Rattle.std.specs.Prelude.{ℕ, List, [], ◌∷◌, if◌then◌else◌, Option, Some, None}
use Rattle.std.specs.Str.{bytes_eq}
use Rattle.scene_expr.specs.declared.words.TheConstants.{WORDS}
use Rattle.scene_expr.specs.declared.words.Constant.{Constant}
use Rattle.scene_expr.specs.declared.words.Call.{Call}
use Rattle.scene_expr.specs.declared.words.Arity.{Arity}
use Rattle.scene_expr.specs.declared.words.Call.TheVariants.{Mod, Div, Pow, Min, Max, Vdot, Vcross, Vrotate, Concat, Str}
use Rattle.scene_expr.specs.declared.words.Channel.{Channel}
use Rattle.scene_expr.specs.declared.words.Axis.{Axis}
use Rattle.scene_expr.specs.declared.words.Component.{Component}
use Rattle.scene_expr.specs.declared.words.Word.{Word}
use Rattle.scene_expr.specs.declared.words.WordClass.{WordClass}

-- what the first entry of a table means that is spelled like the word
abbrev pub meaning_in : {E : Type 0} → (E → List ℕ) → (E → Word) → List ℕ → List E → Option Word
meaning_in spelling meaning word [] = None
meaning_in spelling meaning word (entry ∷ entries) =
    if bytes_eq word (spelling entry) then Some (meaning entry) else meaning_in spelling meaning word entries

-- what a word begins
unfoldable pub word_of : List ℕ → Option Word
word_of word = meaning_in (λ entry. entry.0.now) (λ entry. entry.1) word WORDS

abbrev pub channel_in : Option Word → Option Channel
channel_in (Some (Word.Channel channel)) = Some channel
channel_in other = None

-- the numbers of a colour
abbrev pub channel_of : List ℕ → Option Channel
channel_of word = channel_in (word_of word)

-- the words of the axes name the numbers of a vector
abbrev pub component_in : Option Word → Option Component
component_in (Some (Word.Constant Constant.X)) = Some (Component.Axis Axis.X)
component_in (Some (Word.Constant Constant.Y)) = Some (Component.Axis Axis.Y)
component_in (Some (Word.Constant Constant.Z)) = Some (Component.Axis Axis.Z)
component_in (Some (Word.Channel channel)) = Some (Component.Channel channel)
component_in other = None

-- what may stand behind a dot
abbrev pub component_of : List ℕ → Option Component
component_of word = component_in (word_of word)

abbrev pub class_in : Option Word → Option WordClass
class_in None = None
class_in (Some (Word.Constant value)) = Some WordClass.Value
class_in (Some (Word.Call call)) = Some WordClass.Call
class_in (Some Word.Colour) = Some WordClass.Colour
class_in (Some (Word.Form form)) = Some WordClass.Colour
class_in (Some (Word.Channel channel)) = Some WordClass.Colour

-- a word that stands for a value, calls a function or begins a colour; none for each other word
abbrev pub class_of : List ℕ → Option WordClass
class_of word = class_in (word_of word)

-- ---- how many arguments a call takes

abbrev pub exactly : ℕ → Arity
exactly count = record { least = count; most = Some count }

abbrev pub at_least : ℕ → Arity
at_least count = record { least = count; most = None }

abbrev pub arity_of : Call → Arity
arity_of Mod = exactly 2
arity_of Div = exactly 2
arity_of Pow = exactly 2
arity_of Vdot = exactly 2
arity_of Vcross = exactly 2
arity_of Vrotate = exactly 2
arity_of Str = exactly 3
arity_of Min = at_least 2
arity_of Max = at_least 2
arity_of Concat = at_least 1
arity_of one = exactly 1
