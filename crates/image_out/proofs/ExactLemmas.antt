-- Bytes are read in one way alone.
use Rattle.std.proofs.Common.{◌≡◌, ◌⊎◌, inl, inr, ◌+◌, ◌-◌, ◌*◌, ◌<◌, ◌≤◌, ℕ, zero, suc, List, [], ◌∷◌, ◌++◌, length, take, drop, get_or, refl, ap, sym, subst, ◌∙◌, arith, append_assoc, append-nil, length-append, All, if◌then◌else◌}
use Rattle.std.proofs.lemmas.Bool.{lt-ltb, le-ltb}
use Rattle.std.proofs.lemmas.Grind.{flat_map-append}
use Rattle.std.specs.List.{flat_map}
use Rattle.std.proofs.Math.ListN.{replicate}
use Rattle.std.proofs.Math.Seq.{drop-append_seam, take-append_seam}
use Rattle.image_out.specs.declared.unpack.RleFault.{RleFault}
use Rattle.image_out.specs.declared.unpack.RleFault.TheVariants.{Short, PastRow, Long, NoMemory}
use Rattle.image_out.specs.Pixels.{Pixel, turned}
use Rattle.image_out.specs.Packets.{Packet, Run, Raw, IsPacket, packet_pixels, packet_bytes, pixel_count, row_bytes}
use Rattle.image_out.specs.Unpacking.{pixels_in, count_of, body_length, IsCut, IsTooLong, IsPacketFault, IsRow, IsRowFault, HasRowFault, IsFault, Unpacks, turned_rows, ReadsPicture}
use Rattle.std.proofs.lemmas.List.Elements.{All-cons, All-nil}
use Rattle.image_out.proofs.PixelLemmas.{length-turned}
use Rattle.image_out.proofs.ReadLemmas.{length-packet}

-- two lists of one length in front of others
cancel : (a b r s : List ℕ) → length a ≡ length b → a ++ r ≡ b ++ s → (a ≡ b) × (r ≡ s)
cancel a b r s l e = (
  sym (take-append_seam a r) ∙ ap (take (length a)) e ∙ ap (λ n. take n (b ++ s)) l ∙ take-append_seam b s,
  sym (drop-append_seam a r) ∙ ap (drop (length a)) e ∙ ap (λ n. drop n (b ++ s)) l ∙ drop-append_seam b s,
)

-- what two packets with the same bytes in front have in common
pub record Same (p q : Packet) (r s : List ℕ) : Type 0 where
  pub count : pixel_count p ≡ pixel_count q
  pub triples : flat_map turned (packet_pixels p) ≡ flat_map turned (packet_pixels q)
  pub rest : r ≡ s

runs : (n : ℕ) (a b : Pixel) → turned a ≡ turned b → flat_map turned (replicate n a) ≡ flat_map turned (replicate n b)
runs zero a b e = refl
runs (suc n) a b e = ap (λ t. t ++ flat_map turned (replicate n a)) e ∙ ap (λ t. turned b ++ t) (runs n a b e)

same_packet : (p q : Packet) (r s : List ℕ) → IsPacket p → IsPacket q → packet_bytes p ++ r ≡ packet_bytes q ++ s → Same p q r s
same_packet (Run n a) (Run m b) r s h k e =
    let head : 127 + n ≡ 127 + m = ap (λ l. get_or l 0 0) e in
    let n=m : n ≡ m = omega (arith, head) in
    let c = cancel (turned a) (turned b) r s refl (ap (drop 1) e) in
    record {
      count = n=m;
      triples = runs n a b c.0 ∙ ap (λ j. flat_map turned (replicate j b)) n=m;
      rest = c.1;
    }
same_packet (Run n a) (Raw qs) r s h k e =
    let head : 127 + n ≡ length qs - 1 = ap (λ l. get_or l 0 0) e in absurd (omega (arith, head, h.0, k.1))
same_packet (Raw ps) (Run m b) r s h k e =
    let head : length ps - 1 ≡ 127 + m = ap (λ l. get_or l 0 0) e in absurd (omega (arith, head, k.0, h.1))
same_packet (Raw ps) (Raw qs) r s h k e =
    let head : length ps - 1 ≡ length qs - 1 = ap (λ l. get_or l 0 0) e in
    let count : length ps ≡ length qs = omega (arith, head, h.0, k.0) in
    let c = cancel (flat_map turned ps) (flat_map turned qs) r s (omega (arith, length-turned ps, length-turned qs, count)) (ap (drop 1) e) in
    record { count = count; triples = c.0; rest = c.1 }

body_raw : (head : ℕ) → head < 128 → body_length head ≡ 3 * count_of head
body_raw head h = ap (λ b. if b then 3 * count_of head else 3) (lt-ltb head 128 h)

body_run : (head : ℕ) → 128 ≤ head → body_length head ≡ 3
body_run head h = ap (λ b. if b then 3 * count_of head else 3) (le-ltb head 128 h)

-- a whole packet isn't cut, and a packet that fits isn't too long
not_cut : (p : Packet) (r : List ℕ) (left : ℕ) → IsPacket p → IsCut left (packet_bytes p ++ r) → ⊥
not_cut (Run n a) r left h c =
    let body : body_length (127 + n) ≡ 3 = body_run (127 + n) (omega (arith, h.0)) in omega (arith, c.1, body)
not_cut (Raw ps) r left h c =
    let body : body_length (length ps - 1) ≡ 3 * count_of (length ps - 1) = body_raw (length ps - 1) (omega (arith, h.1)) in
    omega (arith, c.1, body, length-append (flat_map turned ps) r, length-turned ps, h.0, h.1)

not_long : (p : Packet) (r : List ℕ) (left : ℕ) → IsPacket p → pixel_count p ≤ left → IsTooLong left (packet_bytes p ++ r) → ⊥
not_long (Run n a) r left h fits c = omega (arith, h.0, h.1, fits, c)
not_long (Raw ps) r left h fits c = omega (arith, h.0, h.1, fits, c)

-- a packet that fits is no fault
no_fault : (p : Packet) (r s : List ℕ) (left : ℕ) (f : RleFault) → IsPacket p → pixel_count p ≤ left → packet_bytes p ++ r ≡ s → IsPacketFault left s f → f ≡ NoMemory
no_fault p r s left Short h fits e c = absurd (not_cut p r left h (subst (IsCut left) (sym e) c))
no_fault p r s left PastRow h fits e c = absurd (not_long p r left h fits (subst (IsTooLong left) (sym e) c))
no_fault p r s left Long h fits e c = absurd c
no_fault p r s left NoMemory h fits e c = refl

-- the first of a list that all have a property, and the rest
first_is : (p : Packet) (ps : List Packet) → All IsPacket (p ∷ ps) → IsPacket p
first_is p ps h = h 0 p (omega arith)

rest_is : (p : Packet) (ps : List Packet) → All IsPacket (p ∷ ps) → All IsPacket ps
rest_is p ps h = λ k d less. h (suc k) d (omega (arith, less))

-- how many pixels a first packet and the rest have
length_more : (p : Packet) (ps : List Packet) → length (pixels_in (p ∷ ps)) ≡ pixel_count p + length (pixels_in ps)
length_more p ps = length-append (packet_pixels p) (pixels_in ps) ∙ ap (λ n. n + length (pixels_in ps)) (length-packet p)

-- the triples of a first packet and the rest
turned_first : (p : Packet) (ps : List Packet) → flat_map turned (pixels_in (p ∷ ps)) ≡ flat_map turned (packet_pixels p) ++ flat_map turned (pixels_in ps)
turned_first p ps = flat_map-append turned (packet_pixels p) (pixels_in ps)

-- the packets of a whole row are read in one way
pub row_once : (ps qs : List Packet) (width : ℕ) (r s : List ℕ) → All IsPacket ps → All IsPacket qs → length (pixels_in ps) ≡ width → length (pixels_in qs) ≡ width
    → row_bytes ps ++ r ≡ row_bytes qs ++ s → (r ≡ s) × (flat_map turned (pixels_in ps) ≡ flat_map turned (pixels_in qs))
row_once [] [] width r s h k a b e = (e, refl)
row_once [] (q ∷ qs) width r s h k a b e = absurd (omega (arith, a, b, length_more q qs, (first_is q qs k).0))
row_once (p ∷ ps) [] width r s h k a b e = absurd (omega (arith, a, b, length_more p ps, (first_is p ps h).0))
row_once (p ∷ ps) (q ∷ qs) width r s h k a b e =
    let same = same_packet p q (row_bytes ps ++ r) (row_bytes qs ++ s) (first_is p ps h) (first_is q qs k) (sym (append_assoc (packet_bytes p) (row_bytes ps) r) ∙ e ∙ append_assoc (packet_bytes q) (row_bytes qs) s) in
    let more = row_once ps qs (width - pixel_count p) r s (rest_is p ps h) (rest_is q qs k) (omega (arith, a, length_more p ps)) (omega (arith, b, length_more q qs, same.count)) same.rest in
    (more.0, turned_first p ps ∙ ap (λ t. t ++ flat_map turned (pixels_in ps)) same.triples ∙ ap (λ t. flat_map turned (packet_pixels q) ++ t) more.1 ∙ sym (turned_first q qs))

-- where a row is whole, no packet of it is at fault
pub row_no_fault : (ps qs : List Packet) (width left : ℕ) (r s : List ℕ) (f : RleFault) → All IsPacket ps → All IsPacket qs → length (pixels_in ps) ≡ width → length (pixels_in qs) + left ≡ width → 0 < left
    → row_bytes ps ++ r ≡ row_bytes qs ++ s → IsPacketFault left s f → f ≡ NoMemory
row_no_fault [] [] width left r s f h k a b some e c = absurd (omega (arith, a, b, some))
row_no_fault [] (q ∷ qs) width left r s f h k a b some e c = absurd (omega (arith, a, b, some))
row_no_fault (p ∷ ps) [] width left r s f h k a b some e c =
    no_fault p (row_bytes ps ++ r) s left f (first_is p ps h) (omega (arith, a, b, length_more p ps)) (sym (append_assoc (packet_bytes p) (row_bytes ps) r) ∙ e) c
row_no_fault (p ∷ ps) (q ∷ qs) width left r s f h k a b some e c =
    let same = same_packet p q (row_bytes ps ++ r) (row_bytes qs ++ s) (first_is p ps h) (first_is q qs k) (sym (append_assoc (packet_bytes p) (row_bytes ps) r) ∙ e ∙ append_assoc (packet_bytes q) (row_bytes qs) s) in
    row_no_fault ps qs (width - pixel_count p) left r s f (rest_is p ps h) (rest_is q qs k) (omega (arith, a, length_more p ps)) (omega (arith, b, length_more q qs, same.count)) some same.rest c

-- two faults at one place
same_fault : (left : ℕ) (s : List ℕ) (f g : RleFault) → IsPacketFault left s f → IsPacketFault left s g → (f ≡ g) ⊎ ((f ≡ NoMemory) ⊎ (g ≡ NoMemory))
same_fault left s NoMemory g c d = inr (inl refl)
same_fault left s Long g c d = absurd c
same_fault left s Short NoMemory c d = inr (inr refl)
same_fault left s Short Long c d = absurd d
same_fault left s Short Short c d = inl refl
same_fault left [] Short PastRow c d = absurd d
same_fault left (x ∷ s) Short PastRow c d = absurd (omega (arith, c.0, d))
same_fault left s PastRow NoMemory c d = inr (inr refl)
same_fault left s PastRow Long c d = absurd d
same_fault left s PastRow PastRow c d = inl refl
same_fault left [] PastRow Short c d = absurd c
same_fault left (x ∷ s) PastRow Short c d = absurd (omega (arith, d.0, c))

-- a row has one first fault
pub fault_once : (ps qs : List Packet) (width i j : ℕ) (r s : List ℕ) (f g : RleFault) → All IsPacket ps → All IsPacket qs
    → length (pixels_in ps) + i ≡ width → length (pixels_in qs) + j ≡ width → 0 < i → 0 < j
    → row_bytes ps ++ r ≡ row_bytes qs ++ s → IsPacketFault i r f → IsPacketFault j s g → (f ≡ g) ⊎ ((f ≡ NoMemory) ⊎ (g ≡ NoMemory))
fault_once [] [] width i j r s f g h k a b some any e c d =
    let same : j ≡ i = omega (arith, a, b) in
    same_fault i s f g (subst (λ t. IsPacketFault i t f) e c) (subst (λ n. IsPacketFault n s g) same d)
fault_once [] (q ∷ qs) width i j r s f g h k a b some any e c d =
    inr (inl (no_fault q (row_bytes qs ++ s) r i f (first_is q qs k) (omega (arith, a, b, length_more q qs)) (sym (append_assoc (packet_bytes q) (row_bytes qs) s) ∙ sym e) c))
fault_once (p ∷ ps) [] width i j r s f g h k a b some any e c d =
    inr (inr (no_fault p (row_bytes ps ++ r) s j g (first_is p ps h) (omega (arith, a, b, length_more p ps)) (sym (append_assoc (packet_bytes p) (row_bytes ps) r) ∙ e) d))
fault_once (p ∷ ps) (q ∷ qs) width i j r s f g h k a b some any e c d =
    let same = same_packet p q (row_bytes ps ++ r) (row_bytes qs ++ s) (first_is p ps h) (first_is q qs k) (sym (append_assoc (packet_bytes p) (row_bytes ps) r) ∙ e ∙ append_assoc (packet_bytes q) (row_bytes qs) s) in
    fault_once ps qs (width - pixel_count p) i j r s f g (rest_is p ps h) (rest_is q qs k) (omega (arith, a, length_more p ps)) (omega (arith, b, length_more q qs, same.count)) some any same.rest c d

first_row : (width : ℕ) (x : List Packet) (xs : List (List Packet)) → All (IsRow width) (x ∷ xs) → IsRow width x
first_row width x xs h = h 0 x (omega arith)

rest_rows : (width : ℕ) (x : List Packet) (xs : List (List Packet)) → All (IsRow width) (x ∷ xs) → All (IsRow width) xs
rest_rows width x xs h = λ k d less. h (suc k) d (omega (arith, less))

-- a first row on both sides is one
row_same : (width : ℕ) (x y : List Packet) (a b r s : List ℕ) → IsRow width x → IsRow width y → row_bytes x ++ a ++ r ≡ row_bytes y ++ b ++ s
    → (a ++ r ≡ b ++ s) × (flat_map turned (pixels_in x) ≡ flat_map turned (pixels_in y))
row_same width x y a b r s h k e =
    row_once x y width (a ++ r) (b ++ s) h.each k.each h.whole k.whole (sym (append_assoc (row_bytes x) a r) ∙ e ∙ append_assoc (row_bytes y) b s)

-- whole rows are read in one way
rows_once : (xs ys : List (List Packet)) (width : ℕ) (r s : List ℕ) → All (IsRow width) xs → All (IsRow width) ys → length xs ≡ length ys
    → flat_map row_bytes xs ++ r ≡ flat_map row_bytes ys ++ s
    → (r ≡ s) × (flat_map (λ row. flat_map turned (pixels_in row)) xs ≡ flat_map (λ row. flat_map turned (pixels_in row)) ys)
rows_once [] [] width r s h k l e = (e, refl)
rows_once [] (y ∷ ys) width r s h k l e = absurd (omega (arith, l))
rows_once (x ∷ xs) [] width r s h k l e = absurd (omega (arith, l))
rows_once (x ∷ xs) (y ∷ ys) width r s h k l e =
    let f : List Packet → List ℕ = λ row. flat_map turned (pixels_in row) in
    let same = row_same width x y (flat_map row_bytes xs) (flat_map row_bytes ys) r s (first_row width x xs h) (first_row width y ys k) e in
    let more = rows_once xs ys width r s (rest_rows width x xs h) (rest_rows width y ys k) (omega (arith, l)) same.0 in
    (more.0, ap (λ t. t ++ flat_map f xs) same.1 ∙ ap (λ t. f y ++ t) more.1)

-- a whole row isn't at fault
whole_no_fault : (x : List Packet) (width : ℕ) (r s : List ℕ) (f : RleFault) → IsRow width x → row_bytes x ++ r ≡ s → IsRowFault width s f → f ≡ NoMemory
whole_no_fault x width r s f h e c =
    row_no_fault x c.0 width c.1 r c.2 f h.each c.3.each h.whole c.3.open_pixels c.4 (e ∙ c.3.bytes_are) c.5

-- where there are more whole rows, none of them is at fault
rows_no_fault : (xs ys : List (List Packet)) (width : ℕ) (r s : List ℕ) (f : RleFault) → All (IsRow width) xs → All (IsRow width) ys → length ys < length xs
    → flat_map row_bytes xs ++ r ≡ flat_map row_bytes ys ++ s → IsRowFault width s f → f ≡ NoMemory
rows_no_fault [] ys width r s f h k l e c = absurd (omega (arith, l))
rows_no_fault (x ∷ xs) [] width r s f h k l e c =
    whole_no_fault x width (flat_map row_bytes xs ++ r) s f (first_row width x xs h) (sym (append_assoc (row_bytes x) (flat_map row_bytes xs) r) ∙ e) c
rows_no_fault (x ∷ xs) (y ∷ ys) width r s f h k l e c =
    let same = row_same width x y (flat_map row_bytes xs) (flat_map row_bytes ys) r s (first_row width x xs h) (first_row width y ys k) e in
    rows_no_fault xs ys width r s f (rest_rows width x xs h) (rest_rows width y ys k) (omega (arith, l)) same.0 c

-- rows have one first fault
rows_fault_once : (xs ys : List (List Packet)) (width : ℕ) (r s : List ℕ) (f g : RleFault) → All (IsRow width) xs → All (IsRow width) ys
    → flat_map row_bytes xs ++ r ≡ flat_map row_bytes ys ++ s → IsRowFault width r f → IsRowFault width s g → (f ≡ g) ⊎ ((f ≡ NoMemory) ⊎ (g ≡ NoMemory))
rows_fault_once [] [] width r s f g h k e c d =
    fault_once c.0 d.0 width c.1 d.1 c.2 d.2 f g c.3.each d.3.each c.3.open_pixels d.3.open_pixels c.4 d.4 (sym c.3.bytes_are ∙ e ∙ d.3.bytes_are) c.5 d.5
rows_fault_once [] (y ∷ ys) width r s f g h k e c d =
    inr (inl (whole_no_fault y width (flat_map row_bytes ys ++ s) r f (first_row width y ys k) (sym (append_assoc (row_bytes y) (flat_map row_bytes ys) s) ∙ sym e) c))
rows_fault_once (x ∷ xs) [] width r s f g h k e c d =
    inr (inr (whole_no_fault x width (flat_map row_bytes xs ++ r) s g (first_row width x xs h) (sym (append_assoc (row_bytes x) (flat_map row_bytes xs) r) ∙ e) d))
rows_fault_once (x ∷ xs) (y ∷ ys) width r s f g h k e c d =
    let same = row_same width x y (flat_map row_bytes xs) (flat_map row_bytes ys) r s (first_row width x xs h) (first_row width y ys k) e in
    rows_fault_once xs ys width r s f g (rest_rows width x xs h) (rest_rows width y ys k) same.0 c d

-- rows that bytes unpack to have packets
pub record Unpacked (width : ℕ) (bytes : List ℕ) (rows : List (List Pixel)) : Type 0 where
  pub packed : List (List Packet)
  pub whole : All (IsRow width) packed
  pub bytes_are : bytes ≡ flat_map row_bytes packed
  pub count_is : length packed ≡ length rows
  pub triples : turned_rows rows ≡ flat_map (λ row. flat_map turned (pixels_in row)) packed

unpacked : (width : ℕ) (bytes : List ℕ) (rows : List (List Pixel)) → Unpacks width bytes rows → Unpacked width bytes rows
unpacked width bytes [] e = record { packed = []; whole = All-nil (IsRow width); bytes_are = e; count_is = refl; triples = refl }
unpacked width bytes (row ∷ rows) u =
    let more = unpacked width u.1 rows u.5 in
    record {
      packed = u.0 ∷ more.packed;
      whole = All-cons (IsRow width) u.0 more.packed u.2 more.whole;
      bytes_are = u.4 ∙ ap (λ t. row_bytes u.0 ++ t) more.bytes_are;
      count_is = omega (arith, more.count_is);
      triples = ap (λ t. flat_map turned t ++ turned_rows rows) (sym u.3) ∙ ap (λ t. flat_map turned (pixels_in u.0) ++ t) more.triples;
    }

-- a picture is read in one way
pub picture_once : (width height : ℕ) (bytes a b : List ℕ) → ReadsPicture width height bytes a → ReadsPicture width height bytes b → a ≡ b
picture_once width height bytes a b u v =
    let x = unpacked width bytes u.0 u.1 in
    let y = unpacked width bytes v.0 v.1 in
    let bytes_are = ap (λ t. t ++ []) (sym x.bytes_are ∙ y.bytes_are) in
    let same = rows_once x.packed y.packed width [] [] x.whole y.whole (omega (arith, x.count_is, y.count_is, u.2, v.2)) bytes_are in
    u.3 ∙ x.triples ∙ same.1 ∙ sym y.triples ∙ sym v.3

row_fault_none : (width height : ℕ) (bytes a : List ℕ) (f : RleFault) → ReadsPicture width height bytes a → HasRowFault width height bytes f → f ≡ NoMemory
row_fault_none width height bytes a f u c =
    let x = unpacked width bytes u.0 u.1 in
    let e : flat_map row_bytes x.packed ++ [] ≡ flat_map row_bytes c.0 ++ c.2 = append-nil (flat_map row_bytes x.packed) ∙ sym x.bytes_are ∙ c.3.bytes_are in
    rows_no_fault x.packed c.0 width [] c.2 f x.whole c.3.whole (omega (arith, x.count_is, u.2, c.3.count_is, c.4)) e c.5

long_none : (width height : ℕ) (bytes : List ℕ) (f : RleFault) → IsFault width height bytes Long → HasRowFault width height bytes f → f ≡ NoMemory
long_none width height bytes f c d =
    rows_no_fault c.0 d.0 width c.1 d.2 f c.2.whole d.3.whole (omega (arith, c.2.count_is, d.3.count_is, d.4)) (sym c.2.bytes_are ∙ d.3.bytes_are) d.5

-- a picture that is read has no fault
pub picture_no_fault : (width height : ℕ) (bytes a : List ℕ) (f : RleFault) → ReadsPicture width height bytes a → IsFault width height bytes f → f ≡ NoMemory
picture_no_fault width height bytes a NoMemory u c = refl
picture_no_fault width height bytes a Long u c =
    let x = unpacked width bytes u.0 u.1 in
    let e : flat_map row_bytes x.packed ++ [] ≡ flat_map row_bytes c.0 ++ c.1 = append-nil (flat_map row_bytes x.packed) ∙ sym x.bytes_are ∙ c.2.bytes_are in
    let same = rows_once x.packed c.0 width [] c.1 x.whole c.2.whole (omega (arith, x.count_is, u.2, c.2.count_is)) e in
    absurd (omega (arith, c.3, ap length same.0))
picture_no_fault width height bytes a Short u c = row_fault_none width height bytes a Short u c
picture_no_fault width height bytes a PastRow u c = row_fault_none width height bytes a PastRow u c

-- there is one first fault
pub picture_fault_once : (width height : ℕ) (bytes : List ℕ) (f g : RleFault) → IsFault width height bytes f → IsFault width height bytes g → (f ≡ g) ⊎ ((f ≡ NoMemory) ⊎ (g ≡ NoMemory))
picture_fault_once width height bytes NoMemory g c d = inr (inl refl)
picture_fault_once width height bytes Long NoMemory c d = inr (inr refl)
picture_fault_once width height bytes Short NoMemory c d = inr (inr refl)
picture_fault_once width height bytes PastRow NoMemory c d = inr (inr refl)
picture_fault_once width height bytes Long Long c d = inl refl
picture_fault_once width height bytes Long Short c d = inr (inr (long_none width height bytes Short c d))
picture_fault_once width height bytes Long PastRow c d = inr (inr (long_none width height bytes PastRow c d))
picture_fault_once width height bytes Short Long c d = inr (inl (long_none width height bytes Short d c))
picture_fault_once width height bytes PastRow Long c d = inr (inl (long_none width height bytes PastRow d c))
picture_fault_once width height bytes Short Short c d = inl refl
picture_fault_once width height bytes PastRow PastRow c d = inl refl
picture_fault_once width height bytes Short PastRow c d = rows_fault_once c.0 d.0 width c.2 d.2 Short PastRow c.3.whole d.3.whole (sym c.3.bytes_are ∙ d.3.bytes_are) c.5 d.5
picture_fault_once width height bytes PastRow Short c d = rows_fault_once c.0 d.0 width c.2 d.2 PastRow Short c.3.whole d.3.whole (sym c.3.bytes_are ∙ d.3.bytes_are) c.5 d.5
