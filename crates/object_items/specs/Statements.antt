-- The statement of an object: its word, its braces, and behind its parts what is said of them up to the closing brace. (Reference manual, object modifiers)
use Rattle.std.specs.Prelude.{◌≡◌, ℕ, ◌+◌, ◌-◌, Bool, true, false, not, ◌||◌, List, nat_lt, if◌then◌else◌, Option, Some, None, Result, Ok, Err}
use Rattle.scene_lexer.specs.declared.token.Token.{Token}
use Rattle.scene_expr.specs.declared.value.Settings.{Settings}
use Rattle.scene_expr.specs.Heads.{place_at}
use Rattle.scene_expr.specs.Then.{IsThen, Is}
use Rattle.item_blocks.specs.declared.fault.ParseFault.{ParseFault}
use Rattle.item_blocks.specs.declared.fault.Wanted.{Wanted}
use Rattle.item_blocks.specs.declared.words.SolidWord.{SolidWord}
use Rattle.item_blocks.specs.Blocks.{Statement, IsStatements}
use Rattle.item_blocks.specs.Tokens.{word_at, unfit_at, opened, Behind, Reading}
use Rattle.solid_items.specs.declared.draft.SolidDraft.{SolidDraft}
use Rattle.solid_items.specs.Solids.{IsSolid}
use Rattle.object_items.specs.declared.modifier.ModifierPart.{ModifierPart}
use Rattle.object_items.specs.declared.tables.Marks.{Marks}
use Rattle.object_items.specs.Held.{Held, marks_of, with_leaf, closed_looks, turned_from, flipped_from, leaf_number}
use Rattle.object_items.specs.Modifiers.{Said, unsaid, modifier_part, IsModifier}
use Rattle.object_items.specs.Trees.{Tree}

-- what an object is, and all that is held with it: triangles alone have no tree
pub record Drawn : Type 0 where
  pub held : Held
  pub tree : Option Tree
  pub no_shadow : Bool

-- what comes of all that is held and the tokens from a place on
abbrev pub Drawing : Type 1
Drawing = Held → Reading Drawn

-- ---- one part after another

-- statements one after another, as long as what stands next begins one
pub data IsWhile {S : Type 0} (begins : ℕ → Bool) (statement : Statement S) : S → ℕ → Result (Behind S) ParseFault → Type 0 where
  ends : (s : S) (at : ℕ) → begins at ≡ false → IsWhile begins statement s at (Ok (record { value = s; next = at }))
  fault : (s : S) (at : ℕ) (f : ParseFault) → begins at ≡ true → statement s at (Err f) → IsWhile begins statement s at (Err f)
  further : (s : S) (at : ℕ) (more : Behind S) (r : Result (Behind S) ParseFault) → begins at ≡ true → statement s at (Ok more) → IsWhile begins statement more.value more.next r → IsWhile begins statement s at r

-- one statement or more
abbrev pub IsRow : {S : Type 0} → (ℕ → Bool) → Statement S → Statement S
IsRow {S} begins statement s at r = IsThen (Behind S) (Behind S) ParseFault (statement s at) (λ first. IsWhile begins statement first.value first.next) r

-- where no part stands yet, the word of a modifier stands for what is wanted; any other word is out of profile
abbrev pub lacking_by : Option ModifierPart → Wanted → List Token → ℕ → ParseFault
lacking_by (Some part) wanted tokens at = ParseFault.Expected (place_at tokens at) wanted
lacking_by None wanted tokens at = unfit_at wanted tokens at

abbrev pub lacking : Wanted → Bool → List Token → ℕ → ParseFault
lacking wanted mesh tokens at = lacking_by (modifier_part (word_at tokens at) mesh) wanted tokens at

-- the place behind the word of a leaf or a triangle; where as many stand before it as there may be, it passes a limit
abbrev pub counted : ℕ → ℕ → ℕ → List Token → ℕ → Result ℕ ParseFault
counted which most before tokens at = if nat_lt before most then Ok (at + 1) else Err (ParseFault.Limit which (place_at tokens at))

-- ---- the end of a statement

-- modifiers up to the closing brace
abbrev pub IsSaid : List Token → Settings → ℕ → Bool → Marks → Statement Said
IsSaid tokens set depths mesh marks said at r =
    IsStatements tokens (λ said at r. IsModifier tokens set depths marks (modifier_part (word_at tokens at) mesh) said at r) (λ said. None) said at r

-- a leaf that stands alone is inverted itself, a group as a whole
abbrev pub is_leaf : Option Tree → Bool
is_leaf (Some (Tree.leaf n)) = true
is_leaf (Some (Tree.group op parts inverse)) = false
is_leaf None = false

abbrev pub inverse_tree : Tree → Tree
inverse_tree (Tree.leaf n) = Tree.leaf n
inverse_tree (Tree.group op parts inverse) = Tree.group op parts (not inverse)

abbrev pub inverse_of : Option Tree → Option Tree
inverse_of None = None
inverse_of (Some tree) = Some (inverse_tree tree)

-- and all leaves in it are turned: going into the object is going out of such a leaf, and the other way round
abbrev pub inverted : Bool → ℕ → Drawn → Drawn
inverted true from drawn = record {
  held = turned_from from (if is_leaf drawn.tree then flipped_from from drawn.held else drawn.held);
  tree = inverse_of drawn.tree;
  no_shadow = drawn.no_shadow;
}
inverted false from drawn = drawn

-- where a statement is closed, its looks count for all in it that has none of its own
abbrev pub ended : Marks → Option Tree → Bool → Said → Drawn
ended marks tree no_shadow said =
    inverted said.inverse marks.leaves (record { held = closed_looks marks said.looks said.held; tree = tree; no_shadow = no_shadow || said.no_shadow })

-- what is left of a statement behind its parts, which stand from the marks on
abbrev pub IsEnded : List Token → Settings → ℕ → Bool → Marks → Option Tree → Bool → Drawing
IsEnded tokens set depths mesh marks tree no_shadow held at r =
    IsThen (Behind Said) (Behind Drawn) ParseFault (IsSaid tokens set depths mesh marks (unsaid held) at) (λ said.
    Is (Ok (record { value = ended marks tree no_shadow said.value; next = said.next }))) r

-- ---- solids

-- the word of a solid, behind so many, its brace and its parameters
abbrev pub IsCounted : List Token → Settings → ℕ → SolidWord → ℕ → Reading SolidDraft
IsCounted tokens set depths word number at r =
    IsThen ℕ (Behind SolidDraft) ParseFault (Is (counted 5 65536 number tokens at)) (λ brace.
    IsThen ℕ (Behind SolidDraft) ParseFault (Is (opened tokens depths brace)) (λ start.
    IsSolid word tokens set start)) r

-- a solid, from its word on
abbrev pub IsLeafObject : List Token → Settings → ℕ → SolidWord → Drawing
IsLeafObject tokens set depths word held at r =
    IsThen (Behind SolidDraft) (Behind Drawn) ParseFault (IsCounted tokens set depths word (leaf_number held) at) (λ solid.
    IsEnded tokens set (depths - 1) false (marks_of held) (Some (Tree.leaf (leaf_number held))) false (with_leaf solid.value held) solid.next) r
