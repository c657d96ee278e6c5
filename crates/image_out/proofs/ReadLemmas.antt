-- Packets that are read, one after another.
use Rattle.std.proofs.Common.{◌≡◌, ◌+◌, ◌-◌, ◌*◌, ◌<◌, ◌≤◌, ℕ, zero, suc, false, List, [], ◌∷◌, ◌++◌, length, take, drop, get_or, refl, ap, sym, ◌∙◌, subst, arith, append_assoc, append-nil, length-append, take-append-drop, All, map, if◌then◌else◌}
use Rattle.std.specs.List.{flat_map, repeat}
use Rattle.std.proofs.Math.ListN.{replicate}
use Rattle.std.proofs.lemmas.List.{length-replicate, length-map}
use Rattle.std.proofs.Math.Seq.{take-length}
use Rattle.std.proofs.lemmas.Grind.{flat_map-append}
use Rattle.std.proofs.lemmas.List.Folds.{flat_map-map}
use Rattle.std.proofs.lemmas.List.Elements.{All-cons, All-nil, All-append}
use Rattle.std.proofs.Common.{Result, Ok, Err, is_ok, is_err, OnOk, true≢false}
use Rattle.std.specs.declared.alloc.AllocError.{AllocError}
use Rattle.image_out.specs.declared.unpack.RleFault.{RleFault}
use Rattle.image_out.specs.declared.unpack.RleFault.TheVariants.{Short, PastRow, Long, NoMemory}
use Rattle.image_out.specs.Pixels.{Pixel, turned}
use Rattle.image_out.specs.Packets.{Packet, Run, Raw, IsPacket, packet_pixels, packet_bytes, pixel_count, row_bytes}
use Rattle.image_out.specs.Reading.{ReadsPacket, ReadsPart}
use Rattle.image_out.specs.Unpacking.{pixels_in, IsRow, Unpacks, ReadsPicture, AreRows, count_of, IsFault, IsRowFault}

-- so many whole rows are read, and the rest is left
abbrev pub RowsRead : ℕ → ℕ → List ℕ → List ℕ → List ℕ → Type 0
RowsRead width count bytes rest out =
    (rows : List (List Packet)) × AreRows width count bytes rest rows × (out ≡ flat_map (λ row. flat_map turned (pixels_in row)) rows)

-- the pixels of triples blue, green, red
pixels_turned : List ℕ → List Pixel
pixels_turned (blue ∷ green ∷ red ∷ triples) = record { red = red; green = green; blue = blue } ∷ pixels_turned triples
pixels_turned _ = []

turned_again : (n : ℕ) (s : List ℕ) → length s ≡ 3 * n → (flat_map turned (pixels_turned s) ≡ s) × (length (pixels_turned s) ≡ n)
unfolding pixels_turned
turned_again zero [] h = (refl, refl)
turned_again (suc n) [] h = absurd (omega (arith, h))
turned_again zero (_ ∷ s) h = absurd (omega (arith, h))
turned_again (suc n) (_ ∷ []) h = absurd (omega (arith, h))
turned_again (suc n) (_ ∷ _ ∷ []) h = absurd (omega (arith, h))
turned_again (suc n) (b ∷ g ∷ r ∷ s) h =
    let more = turned_again n s (omega (arith, h)) in
    (ap (λ t. b ∷ g ∷ r ∷ t) more.0, ap suc more.1)

-- so many times one triple
turned_run : (n : ℕ) (p : Pixel) → repeat n (turned p) ≡ flat_map turned (replicate n p)
turned_run zero p = refl
turned_run (suc n) p = ap (λ t. turned p ++ t) (turned_run n p)

-- a raw packet, read
pub raw_read : (left head : ℕ) (body pixels rest old new : List ℕ) → head < 128 → count_of head ≤ left → body ≡ pixels ++ rest → length pixels ≡ 3 * count_of head
    → new ≡ old ++ repeat 1 pixels → ReadsPacket left (count_of head) (head ∷ body) rest old new
raw_read left head body pixels rest old new small fits b l q =
    let again = turned_again (count_of head) pixels l in
    let ps = pixels_turned pixels in
    let e : length ps - 1 ≡ head = omega (arith, again.1, small) in
    record {
      packet = Raw ps;
      sound = (omega (arith, again.1), omega (arith, again.1));
      count_is = again.1;
      fits = fits;
      bytes_are = ap (λ t. head ∷ t) b ∙ ap (λ t. head ∷ (t ++ rest)) (sym again.0) ∙ ap (λ n. n ∷ (flat_map turned ps ++ rest)) (sym e);
      triples = q ∙ ap (λ t. old ++ t) (append-nil pixels ∙ sym again.0);
    }

-- a run, read
pub run_read : (left head : ℕ) (body pixels rest old new : List ℕ) → 128 ≤ head → head < 256 → count_of head ≤ left → body ≡ pixels ++ rest → length pixels ≡ 3
    → new ≡ old ++ repeat (count_of head) pixels → ReadsPacket left (count_of head) (head ∷ body) rest old new
run_read left head body [] rest old new large top fits b l q = absurd (omega (arith, l))
run_read left head body (_ ∷ []) rest old new large top fits b l q = absurd (omega (arith, l))
run_read left head body (_ ∷ _ ∷ []) rest old new large top fits b l q = absurd (omega (arith, l))
run_read left head body (_ ∷ _ ∷ _ ∷ _ ∷ _) rest old new large top fits b l q = absurd (omega (arith, l))
run_read left head body (b ∷ g ∷ r ∷ []) rest old new large top fits e l q =
    let p : Pixel = record { red = r; green = g; blue = b } in
    let h : 127 + count_of head ≡ head = omega (arith, large, top) in
    record {
      packet = Run (count_of head) p;
      sound = (omega arith, omega arith);
      count_is = refl;
      fits = fits;
      bytes_are = ap (λ t. head ∷ t) e ∙ ap (λ n. n ∷ b ∷ g ∷ r ∷ rest) (sym h);
      triples = q ∙ ap (λ t. old ++ t) (turned_run (count_of head) p);
    }

-- as many pixels as the count
pub length-packet : (p : Packet) → length (packet_pixels p) ≡ pixel_count p
length-packet (Run n p) = length-replicate n p
length-packet (Raw ps) = refl

-- one more packet of a row
pub part_more : (width left count : ℕ) (bytes rest behind old out new : List ℕ) → ReadsPart width left bytes rest old out → ReadsPacket left count rest behind out new
    → ReadsPart width (left - count) bytes behind old new
part_more width left count bytes rest behind old out new part first =
    let ps = part.0 in
    let q = first.packet in
    let pixels : pixels_in (ps ++ q ∷ []) ≡ pixels_in ps ++ packet_pixels q = flat_map-append packet_pixels ps (q ∷ []) ∙ ap (λ t. pixels_in ps ++ t) (append-nil (packet_pixels q)) in
    let packets : row_bytes (ps ++ q ∷ []) ≡ row_bytes ps ++ packet_bytes q = flat_map-append packet_bytes ps (q ∷ []) ∙ ap (λ t. row_bytes ps ++ t) (append-nil (packet_bytes q)) in (
      ps ++ q ∷ [],
      record {
        each = All-append IsPacket ps (q ∷ []) part.1.each (All-cons IsPacket q [] first.sound (All-nil IsPacket));
        open_pixels = omega (arith, part.1.open_pixels, ap length pixels, length-append (pixels_in ps) (packet_pixels q), length-packet q, first.count_is, first.fits);
        bytes_are = part.1.bytes_are ∙ ap (λ t. row_bytes ps ++ t) first.bytes_are ∙ sym (append_assoc (row_bytes ps) (packet_bytes q) behind) ∙ ap (λ t. t ++ behind) (sym packets);
      },
      first.triples ∙ ap (λ t. t ++ flat_map turned (packet_pixels q)) part.2 ∙ append_assoc old (flat_map turned (pixels_in ps)) (flat_map turned (packet_pixels q))
          ∙ ap (λ t. old ++ t) (sym (flat_map-append turned (pixels_in ps) (packet_pixels q)) ∙ ap (flat_map turned) (sym pixels)),
    )

-- nothing of a row is read yet
pub part_none : (width : ℕ) (bytes old : List ℕ) → ReadsPart width width bytes bytes old old
part_none width bytes old =
    ([], record { each = All-nil IsPacket; open_pixels = omega arith; bytes_are = refl }, sym (append-nil old))

-- one more row
pub rows_more : (width count : ℕ) (bytes rest below out new : List ℕ) → RowsRead width count bytes rest out → ReadsPart width 0 rest below out new
    → RowsRead width (count + 1) bytes below new
rows_more width count bytes rest below out new above part =
    let rows = above.0 in
    let row = part.0 in
    let one : IsRow width row = record { each = part.1.each; whole = omega (arith, part.1.open_pixels) } in
    let packets : flat_map row_bytes (rows ++ row ∷ []) ≡ flat_map row_bytes rows ++ row_bytes row = flat_map-append row_bytes rows (row ∷ []) ∙ ap (λ t. flat_map row_bytes rows ++ t) (append-nil (row_bytes row)) in
    let f : List Packet → List ℕ = λ r. flat_map turned (pixels_in r) in (
      rows ++ row ∷ [],
      record {
        whole = All-append (IsRow width) rows (row ∷ []) above.1.whole (All-cons (IsRow width) row [] one (All-nil (IsRow width)));
        count_is = omega (arith, length-append rows (row ∷ []), above.1.count_is);
        bytes_are = above.1.bytes_are ∙ ap (λ t. flat_map row_bytes rows ++ t) part.1.bytes_are ∙ sym (append_assoc (flat_map row_bytes rows) (row_bytes row) below) ∙ ap (λ t. t ++ below) (sym packets);
      },
      part.2 ∙ ap (λ t. t ++ f row) above.2 ∙ sym (flat_map-append f rows (row ∷ []) ∙ ap (λ t. flat_map f rows ++ t) (append-nil (f row))),
    )

length_nil : (s : List ℕ) → length s ≡ 0 → s ≡ []
length_nil [] h = refl
length_nil (x ∷ s) h = absurd (omega (arith, h))

-- whole rows unpack to their pixels
pub rows_unpack : (width : ℕ) (bytes : List ℕ) (rows : List (List Packet)) → All (IsRow width) rows → bytes ≡ flat_map row_bytes rows → Unpacks width bytes (map pixels_in rows)
rows_unpack width bytes [] h e = e
rows_unpack width bytes (row ∷ rows) h e =
    (row, flat_map row_bytes rows, h 0 row (omega arith), refl, e, rows_unpack width (flat_map row_bytes rows) rows (λ k d less. h (suc k) d (omega (arith, less))) refl)

-- all rows are read, and nothing is left
pub picture_read : (width height count : ℕ) (bytes rest out : List ℕ) → RowsRead width count bytes rest out → count ≡ height → length rest ≡ 0 → ReadsPicture width height bytes out
picture_read width height count bytes rest out read e none =
    let rows = read.0 in
    let all : bytes ≡ flat_map row_bytes rows =
    read.1.bytes_are ∙ ap (λ t. flat_map row_bytes rows ++ t) (length_nil rest none) ∙ append-nil (flat_map row_bytes rows) in (
      map pixels_in rows,
      rows_unpack width bytes rows read.1.whole all,
      length-map rows pixels_in ∙ read.1.count_is ∙ e,
      read.2 ∙ sym (flat_map-map (λ row. flat_map turned row) pixels_in rows),
    )

-- a list before a place and behind it
pub split_is : (n : ℕ) (s front back : List ℕ) → front ≡ take n s → back ≡ drop n s → s ≡ front ++ back
split_is n s front back f b = sym (ap (λ t. front ++ t) b ∙ ap (λ t. t ++ drop n s) f ∙ take-append-drop n s)

-- nothing is read yet
pub rows_none : (width : ℕ) (bytes out : List ℕ) → out ≡ [] → RowsRead width 0 bytes bytes out
rows_none width bytes out e = ([], record { whole = All-nil (IsRow width); count_is = refl; bytes_are = refl }, e)

-- once more behind so many times
repeat_end : (n : ℕ) (s : List ℕ) → repeat n s ++ s ≡ s ++ repeat n s
repeat_end zero s = sym (append-nil s)
repeat_end (suc n) s = append_assoc s (repeat n s) s ∙ ap (λ t. s ++ t) (repeat_end n s)

pub repeat_more : (n : ℕ) (s old a b : List ℕ) → a ≡ old ++ repeat n s → b ≡ a ++ s → b ≡ old ++ repeat (n + 1) s
repeat_more n s old a b p q =
    let e : suc n ≡ n + 1 = omega arith in
    q ∙ ap (λ t. t ++ s) p ∙ append_assoc old (repeat n s) s ∙ ap (λ t. old ++ t) (repeat_end n s) ∙ ap (λ k. old ++ repeat k s) e

-- a list by its first byte
pub by_head : (s : List ℕ) → 1 ≤ length s → get_or s 0 0 ∷ take (length s - 1) (drop 1 s) ≡ s
by_head [] h = absurd (omega (arith, h))
by_head (x ∷ s) h =
    let e : suc (length s) - 1 ≡ length s = omega arith in
    ap (λ n. x ∷ take n s) e ∙ ap (λ t. x ∷ t) (take-length s)

-- a call that didn't fail has appended
pub appended : (r : Result (Unit {0}) AllocError) (a b new : List ℕ) → new ≡ (if is_ok r then a ++ b else a) → is_err r ≡ false → new ≡ a ++ b
appended (Ok x) a b new e h = e
appended (Err x) a b new e h = absurd (true≢false h)

pub repeated : (r : Result (Unit {0}) AllocError) (P : Type 0) → OnOk r P → is_err r ≡ false → P
repeated (Ok x) P p h = p
repeated (Err x) P p h = absurd (true≢false h)

-- a row that can't be read is the picture's fault
pub row_fault : (width height count : ℕ) (bytes rest out : List ℕ) (fault : RleFault) → RowsRead width count bytes rest out → count < height → IsRowFault width rest fault
    → IsFault width height bytes fault
row_fault width height count bytes rest out Short above less f = (above.0, count, rest, above.1, less, f)
row_fault width height count bytes rest out PastRow above less f = (above.0, count, rest, above.1, less, f)
row_fault width height count bytes rest out Long above less f = absurd f.5
row_fault width height count bytes rest out NoMemory above less f = tt

-- all rows are read, and bytes are left
pub long_read : (width height count : ℕ) (bytes rest out : List ℕ) → RowsRead width count bytes rest out → count ≡ height → 0 < length rest → IsFault width height bytes Long
long_read width height count bytes rest out read e some =
    (read.0, rest, subst (λ n. AreRows width n bytes rest read.0) e read.1, some)
