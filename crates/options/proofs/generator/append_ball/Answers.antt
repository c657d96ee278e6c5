-- Five parts.
use Rattle.std.proofs.Common.{codes}
use Rattle.options.specs.Generated.{line, place_of, colour_of}
use Rattle.options.proofs.Glue.{glue5}
use Rattle.options.proofs.generator.append_ball.Goals as goal

pub returns : goal.returns
returns c =
    glue5 c.args.out.now.items (codes "sphere { <") (place_of c.args.number) (codes ">, 0.4 pigment { rgb <") (colour_of c.args.number)
    (line (codes "> } finish { reflection 0.2 } }")) c.append.new.out.items c.append_place.new.out.items c.append-2.new.out.items
    c.append_colour.new.out.items c.append-3.new.out.items
    c.in_ok-append.ensures c.in_ok-append_place.ensures c.in_ok-append-2.ensures c.in_ok-append_colour.ensures c.in_ok-append-3.ensures
