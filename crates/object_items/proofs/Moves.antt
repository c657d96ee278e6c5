-- A step of a statement, over the tables of the reader.
use Rattle.std.proofs.Common.{◌≡◌, ◌<◌, ◌≤◌, ◌+◌, ◌-◌, ℕ, List, [], ◌∷◌, ◌++◌, Option, Some, None, Ok, Err, take, drop, length, sym, ap, subst, ◌∙◌, arith, get_or, slice_index_or, length-append, append-nil}
use Rattle.std.proofs.Math.Seq.{take-append-add}
use Rattle.std.proofs.lemmas.List.{take_all, take-append-le, drop-append-le, get_or-append-add}
use Rattle.scene_lexer.specs.declared.token.Token.{Token as TextToken}
use Rattle.scene_expr.specs.declared.value.Settings.{Settings}
use Rattle.scene_expr.specs.Then.{IsThen}
use Rattle.xform.specs.declared.transform.Xform.{Xform}
use Rattle.item_blocks.specs.declared.fault.ParseFault.{ParseFault}
use Rattle.item_blocks.specs.declared.pigment.PigmentDraft.{PigmentDraft}
use Rattle.item_blocks.specs.ReadingLaws.{same_value}
use Rattle.item_blocks.specs.Steps.{IsMovedIn}
use Rattle.object_items.specs.declared.modifier.Modifiers.{Modifiers}
use Rattle.object_items.specs.declared.tables.Marks.{Marks}
use Rattle.object_items.specs.Held.{Held, with_thing, with_moved, without_last}
use Rattle.object_items.specs.Modifiers.{Said, said_of, own_thing, moved_pigment, moved_said, IsStep}

-- ---- lists

-- the last of two lists is that of the second
pub last_of : {A : Type 0} (front ys : List A) (d : A) → 0 < length ys → slice_index_or (front ++ ys) (length (front ++ ys) - 1) d ≡ slice_index_or ys (length ys - 1) d
last_of front ys d some =
    let e : length (front ++ ys) - 1 ≡ length front + (length ys - 1) = omega (arith, length-append front ys, some) in
    ap (λ n. get_or (front ++ ys) n d) e ∙ get_or-append-add front ys (length ys - 1) d

-- behind the things before, all but the last that were moved
pub but_last : {A : Type 0} (from : ℕ) (things : List A) (x : A) (ys : List A) → from ≤ length things → from + length ys ≡ length (things ++ x ∷ [])
    → take (length (take from (things ++ x ∷ []) ++ ys) - 1) (take from (things ++ x ∷ []) ++ ys) ≡ take from things ++ take (length things - from) ys
but_last from things x ys few many =
    let front : take from (things ++ x ∷ []) ≡ take from things = take-append-le from things (x ∷ []) few in
    let count : length (things ++ x ∷ []) ≡ length things + 1 = length-append things (x ∷ []) in
    let e : length (take from things ++ ys) - 1 ≡ length (take from things) + (length things - from) = omega (arith, length-append (take from things) ys, count, many, few) in
    ap (λ l. take (length (l ++ ys) - 1) (l ++ ys)) front
    ∙ ap (λ n. take n (take from things ++ ys)) e
    ∙ take-append-add (take from things) ys (length things - from)

-- ---- what is moved, and what comes of it

module _ (tokens : List TextToken) (set : Settings) (depths : ℕ) (marks : Marks) (said : Said) (at : ℕ) where
  pub step_fault : (xs : List Xform) (f : ParseFault) → xs ≡ drop marks.things said.held.things ++ own_thing said.looks.texture.pigment → IsMovedIn tokens set depths xs at (Err f) → IsStep tokens set depths marks said at (Err f)
  step_fault xs f same moved = IsThen.fault f (subst (λ l. IsMovedIn tokens set depths l at (Err f)) same moved)

  pub step_found : (xs ys : List Xform) (next : ℕ) (after : Said) → xs ≡ drop marks.things said.held.things ++ own_thing said.looks.texture.pigment → IsMovedIn tokens set depths xs at (Ok (record { value = ys; next = next })) → after ≡ moved_said marks said ys → IsStep tokens set depths marks said at (Ok (record { value = after; next = next }))
  step_found xs ys next after same moved is =
      IsThen.found (record { value = ys; next = next }) _ (subst (λ l. IsMovedIn tokens set depths l at (Ok (record { value = ys; next = next }))) same moved) (same_value after (moved_said marks said ys) next is)

module _ (marks : Marks) (m : Modifiers) (held : Held) where
  abbrev with_both : Option PigmentDraft → Held → Said
  with_both pigment after = record { looks = record m.looks { texture = record m.looks.texture { pigment = pigment } }; inverse = m.inverse; no_shadow = m.no_shadow; held = after }

  -- no pigment is given
  pub things_alone : m.looks.texture.pigment ≡ None → drop marks.things held.things ≡ drop marks.things held.things ++ own_thing m.looks.texture.pigment
  things_alone is = sym (append-nil (drop marks.things held.things)) ∙ ap (λ p. drop marks.things held.things ++ own_thing p) (sym is)

  pub said_alone : (after : Held) (ys : List Xform) → m.looks.texture.pigment ≡ None → after ≡ with_moved marks.things ys held → marks.things + length ys ≡ length held.things → said_of m after ≡ moved_said marks (said_of m held) ys
  said_alone after ys is moved many =
      let all : take (length held.things - marks.things) ys ≡ ys = take_all (length held.things - marks.things) ys (omega (arith, many)) in
      let same : after ≡ with_moved marks.things (take (length held.things - marks.things) ys) held = moved ∙ ap (λ l. with_moved marks.things l held) (sym all) in
      let pigment : m.looks.texture.pigment ≡ moved_pigment m.looks.texture.pigment ys = is ∙ ap (λ p. moved_pigment p ys) (sym is) in
      ap (λ p. with_both p after) pigment ∙ ap (λ h. with_both (moved_pigment m.looks.texture.pigment ys) h) same

  -- a pigment is given, whose thing stands behind the others
  module _ (pigment : PigmentDraft) (pushed : Held) (is : m.looks.texture.pigment ≡ Some pigment) (few : marks.things ≤ length held.things) (push : pushed ≡ with_thing pigment.xform held) where
    pub things_and : drop marks.things pushed.things ≡ drop marks.things held.things ++ own_thing m.looks.texture.pigment
    things_and =
        ap (λ h. drop marks.things h.things) push
        ∙ drop-append-le marks.things held.things (pigment.xform ∷ []) few
        ∙ ap (λ p. drop marks.things held.things ++ own_thing p) (sym is)

    pub said_and : (moved after : Held) (x : Xform) (ys : List Xform) → moved ≡ with_moved marks.things ys pushed → marks.things + length ys ≡ length pushed.things → after ≡ without_last moved → x ≡ slice_index_or moved.things (length moved.things - 1) pigment.xform
        → said_of (record m { looks = record m.looks { texture = record m.looks.texture { pigment = Some (record pigment { xform = x }) } } }) after ≡ moved_said marks (said_of m held) ys
    said_and moved after x ys move many taken last =
        let whole : moved ≡ with_moved marks.things ys (with_thing pigment.xform held) = move ∙ ap (λ h. with_moved marks.things ys h) push in
        let count : marks.things + length ys ≡ length (held.things ++ pigment.xform ∷ []) = many ∙ ap (λ h. length h.things) push in
        let more : length (held.things ++ pigment.xform ∷ []) ≡ length held.things + 1 = length-append held.things (pigment.xform ∷ []) in
        let some : 0 < length ys = omega (arith, count, more, few) in
        let own : x ≡ slice_index_or ys (length ys - 1) pigment.xform =
        last ∙ ap (λ h. slice_index_or h.things (length h.things - 1) pigment.xform) whole ∙ last_of (take marks.things (held.things ++ pigment.xform ∷ [])) ys pigment.xform some in
        let same : after ≡ record held { things = take marks.things held.things ++ take (length held.things - marks.things) ys } =
        taken ∙ ap without_last whole ∙ ap (λ l. record held { things = l }) (but_last marks.things held.things pigment.xform ys few count) in
        let given : Some (record pigment { xform = x }) ≡ moved_pigment m.looks.texture.pigment ys =
        ap (λ z. Some (record pigment { xform = z })) own ∙ ap (λ p. moved_pigment p ys) (sym is) in
        ap (λ p. with_both p after) given ∙ ap (λ h. with_both (moved_pigment m.looks.texture.pigment ys) h) same
