-- Lamps whose parts are equal.
use Rattle.std.proofs.Common.{◌≡◌, ℕ, ℤ, List, Result, Ok, ap}
use Rattle.fix_math.specs.declared.fix.V3.{V3}
use Rattle.scene_lexer.specs.declared.token.Place.{Place}
use Rattle.xform.specs.declared.transform.Xform.{Xform}
use Rattle.item_blocks.specs.declared.fault.ParseFault.{ParseFault}
use Rattle.view_blocks.specs.declared.lamp.LampDraft.{LampDraft}
use Rattle.item_blocks.specs.Tokens.{Behind, behind}

pub lit_same : (lamp : LampDraft) (v : V3) (colour : List ℤ) (p q : Place) (next : ℕ) → p ≡ q → ◌≡◌ {A = Result (Behind LampDraft) ParseFault} (Ok (record { value = record lamp { at = v; place = p; colour = colour }; next = next })) (Ok (record { value = record lamp { at = v; place = q; colour = colour }; next = next }))
lit_same lamp v colour p q next is = ap (λ place. behind (Ok (record lamp { at = v; place = place; colour = colour })) next) is

pub shifted_lamp : (lamp : LampDraft) (x y : Xform) (next : ℕ) → x ≡ y → ◌≡◌ {A = Result (Behind LampDraft) ParseFault} (Ok (record { value = record lamp { xform = x }; next = next })) (Ok (record { value = record lamp { xform = y }; next = next }))
shifted_lamp lamp x y next is = ap (λ z. behind (Ok (record lamp { xform = z })) next) is
