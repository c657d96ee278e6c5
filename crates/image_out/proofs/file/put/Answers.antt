-- The header, and then the pixels.
use Rattle.image_out.proofs.FileLemmas.{ppm_by_parts, rle_by_parts, targa_by_parts}
use Rattle.image_out.proofs.UnpackLemmas.{depth_of_rle, file_unpacks}
use Rattle.image_out.proofs.file.put.Goals as goal

pub returns-in-Ppm-clause-file : goal.returns-in-Ppm-clause-file
returns-in-Ppm-clause-file c =
    let p = c.args.p.now in
    ppm_by_parts c.args.sort p.width p.height p.bits p.bytes.now _ _ _ c.in-Ppm.is c.put_ppm_header.ensures.items c.append.ensures.items

pub returns-in-Targa-clause-file : goal.returns-in-Targa-clause-file
returns-in-Targa-clause-file c =
    let p = c.args.p.now in
    targa_by_parts c.args.sort p.width p.height p.bits p.bytes.now _ _ _ c.in-Targa.is c.put_targa_header.ensures.items c.append_turned.ensures.items

pub returns-in-TargaRle-clause-file : goal.returns-in-TargaRle-clause-file
returns-in-TargaRle-clause-file c =
    let p = c.args.p.now in
    rle_by_parts c.args.sort p.width p.height p.bits p.bytes.now _ _ _ c.in-TargaRle.is c.put_targa_header-in-TargaRle.ensures.items c.put_rows.ensures.items

pub returns-in-TargaRle-clause-unpacks : goal.returns-in-TargaRle-clause-unpacks
returns-in-TargaRle-clause-unpacks c k =
    let p = c.args.p.now in
    let file = rle_by_parts c.args.sort p.width p.height p.bits p.bytes.now _ _ _ c.in-TargaRle.is c.put_targa_header-in-TargaRle.ensures.items c.put_rows.ensures.items in
    file_unpacks c.args.sort p.width p.height p.bits p.bytes.now _ _ k c.requires.whole (depth_of_rle c.args.sort p.bits k c.requires.bits) file
