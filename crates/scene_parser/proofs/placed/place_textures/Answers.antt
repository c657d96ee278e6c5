use Rattle.std.proofs.Common.{◌≡◌, Some, [], ◌∷◌, ◌++◌, map, length, drop, ◌+◌, refl, sym, ap, ◌∙◌, subst, arith}
use Rattle.std.specs.Prelude.{slice_get}
use Rattle.std.specs.List.{All}
use Rattle.std.proofs.lemmas.List.Elements.{All-append, All-cons, All-nil}
use Rattle.std.proofs.lemmas.Option.{slice_get_read}
use Rattle.scene_model.specs.Looks.{IsTexture}
use Rattle.item_blocks.specs.Made.{texture_seen, texture_of}
use Rattle.scene_parser.specs.Placed.{textures_of}
use Rattle.scene_parser.proofs.Places.{texture_turn, sound_at}
use Rattle.scene_parser.proofs.placed.place_textures.Goals as goal

pub loop-one-preserved : goal.loop-one-preserved
loop-one-preserved c =
    let at : slice_get c.args.given.now c.loop-one.one-index ≡ Some c.one-item.result = slice_get_read c.args.given.now (length c.args.given.now) c.loop-one.one-index c.one-item.result refl (omega (arith, c.loop-one-test.true)) c.one-item.is in
    let made = c.in_ok-texture.ensures.found ∙ ap (λ t. texture_of t c.args.default.now) c.in_ok-settled.ensures.found in
    let turn = texture_turn c.args.default.now c.args.things.now c.args.given.now _ c.loop-one.textures.items c.loop-one.one-index c.one-item.result c.in_ok-texture.texture c.loop-one.invariant.same at made in
    let given = sound_at c.args.given.now c.loop-one.one-index c.one-item.result c.requires.sound at in
    let valid = c.in_ok-texture.ensures.valid (c.in_ok-settled.ensures.sound given) c.requires.default in
    let added = All-append IsTexture c.loop-one.textures.items (c.in_ok-texture.texture ∷ []) c.loop-one.invariant.valid (All-cons IsTexture c.in_ok-texture.texture [] valid (All-nil IsTexture)) in
    record {
      same = subst (λ l. map texture_seen c.args.textures.items ++ textures_of c.args.default.now c.args.things.now c.args.given.now ≡ map texture_seen l ++ textures_of c.args.default.now c.args.things.now (drop (c.loop-one.one-index + 1) c.args.given.now)) (sym c.in_ok-textures.ensures.found) turn;
      valid = subst (λ l. All IsTexture l) (sym c.in_ok-textures.ensures.found) added;
    }
