-- No file is longer than its room.
use Rattle.std.proofs.Common.{ap, arith}
use Rattle.image_out.specs.Sizes.{room_of}
use Rattle.image_out.proofs.FileLemmas.{file_fits}
use Rattle.image_out.proofs.file.room.Goals as goal

pub returns-in-Ppm-clause-enough : goal.returns-in-Ppm-clause-enough
returns-in-Ppm-clause-enough c bytes d e =
    let a = c.args in
    omega (
      arith,
      ap (λ s. room_of s a.width a.height a.bits) c.in-Ppm.is,
      file_fits a.sort a.width a.height a.bits bytes c.requires.width c.requires.height e,
    )

pub returns-in-Targa-clause-enough : goal.returns-in-Targa-clause-enough
returns-in-Targa-clause-enough c bytes d e =
    let a = c.args in
    omega (
      arith,
      ap (λ s. room_of s a.width a.height a.bits) c.in-Targa.is,
      file_fits a.sort a.width a.height a.bits bytes c.requires.width c.requires.height e,
    )

pub returns-in-TargaRle-clause-enough : goal.returns-in-TargaRle-clause-enough
returns-in-TargaRle-clause-enough c bytes d e =
    let a = c.args in
    omega (
      arith,
      ap (λ s. room_of s a.width a.height a.bits) c.in-TargaRle.is,
      file_fits a.sort a.width a.height a.bits bytes c.requires.width c.requires.height e,
    )
