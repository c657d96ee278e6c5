-- Colours of patterns, and parameters at places that are equal.
use Rattle.std.proofs.Common.{◌≡◌, ℕ, ℤ, List, ap, Result, Ok, subst}
use Rattle.scene_lexer.specs.declared.token.Token.{Token as TextToken}
use Rattle.scene_expr.specs.declared.value.Settings.{Settings}
use Rattle.item_blocks.specs.declared.fault.ParseFault.{ParseFault}
use Rattle.item_blocks.specs.Tokens.{Behind}
use Rattle.item_blocks.specs.Pigments.{IsTwo, IsThree}
use Rattle.item_blocks.specs.declared.pigment.PigmentDraft.{PigmentDraft}
use Rattle.item_blocks.specs.declared.texture.MaterialDraft.{MaterialDraft}
use Rattle.item_blocks.specs.declared.texture.TextureDraft.{TextureDraft}
use Rattle.item_blocks.specs.Tokens.{behind}
use Rattle.xform.specs.declared.transform.Xform.{Xform}

pub two_of : (tokens : List TextToken) (settings : Settings) (a b a' b' : List ℤ) (at : ℕ) (r : Result (Behind (List (List ℤ))) ParseFault) → a ≡ a' → b ≡ b' → IsTwo tokens settings a b at r → IsTwo tokens settings a' b' at r
two_of tokens settings a b a' b' at r p q is = subst (λ x. IsTwo tokens settings x b' at r) p (subst (λ x. IsTwo tokens settings a x at r) q is)

pub three_of : (tokens : List TextToken) (settings : Settings) (a b c a' b' c' : List ℤ) (at : ℕ) (r : Result (Behind (List (List ℤ))) ParseFault) → a ≡ a' → b ≡ b' → c ≡ c' → IsThree tokens settings a b c at r → IsThree tokens settings a' b' c' at r
three_of tokens settings a b c a' b' c' at r p q s is =
    subst (λ x. IsThree tokens settings x b' c' at r) p (subst (λ x. IsThree tokens settings a x c' at r) q (subst (λ x. IsThree tokens settings a b x at r) s is))

pub shifted_same : (draft : PigmentDraft) (x y : Xform) (next : ℕ) → x ≡ y → ◌≡◌ {A = Result (Behind PigmentDraft) ParseFault} (Ok (record { value = record draft { xform = x }; next = next })) (Ok (record { value = record draft { xform = y }; next = next }))
shifted_same draft x y next is = ap (λ z. behind (Ok (record draft { xform = z })) next) is

pub set_same : (material : MaterialDraft) (a b : TextureDraft) (next : ℕ) → a ≡ b → ◌≡◌ {A = Result (Behind MaterialDraft) ParseFault} (Ok (record { value = record material { texture = a }; next = next })) (Ok (record { value = record material { texture = b }; next = next }))
set_same material a b next is = ap (λ z. behind (Ok (record material { texture = z })) next) is
