-- A key is its parts, and so it is short.
use Rattle.std.proofs.Common.{[], ◌++◌, length, codes, ap, ◌∙◌}
use Rattle.std.specs.List.{flat_map}
use Rattle.byteorder.specs.Endian.{little_bytes}
use Rattle.options.specs.Keys.{source_bytes, size_bytes, clock_bytes, frame_bytes, antialias_bytes}
use Rattle.options.proofs.Glue.{glue7}
use Rattle.options.proofs.KeyLemmas.{key_most}
use Rattle.options.proofs.keys.key.Goals as goal

pub returns-clause-most : goal.returns-clause-most
returns-clause-most c =
    let p = c.args.p.now in
    let files = c.args.flat.now.files.items in
    key_most p files c.args.frame c.append_antialias.new.out.items c.requires.files
    (glue7 [] (codes "POVFIX02") (size_bytes p) (clock_bytes p c.args.frame) (frame_bytes p c.args.frame) (little_bytes 4 (length files))
    (flat_map source_bytes files) (antialias_bytes p.antialias)
    c.append.new.out.items c.append_sizes.new.out.items c.append_clocks.new.out.items c.append_frames.new.out.items
    c.append_u32.new.out.items c.append_sources.new.out.items c.append_antialias.new.out.items
    (c.in_ok-append.ensures ∙ ap (λ l. l ++ codes "POVFIX02") c.new-key.ensures.items)
    c.in_ok-append_sizes.ensures c.in_ok-append_clocks.ensures c.in_ok-append_frames.ensures
    (c.in_ok-append_u32.ensures ∙ ap (λ n. c.append_frames.new.out.items ++ little_bytes 4 n) (c.len.ensures ∙ c.args.flat.now.files.ok.0))
    (c.in_ok-append_sources.ensures ∙ ap (λ l. c.append_u32.new.out.items ++ flat_map source_bytes l) c.deref.ensures.value)
    c.in_ok-append_antialias.ensures)
