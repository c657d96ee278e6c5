-- Run-length packets. (Truevision TGA 2.0, image types 9 to 11)
use Rattle.std.specs.Prelude.{ℕ, zero, suc, ◌+◌, ◌-◌, ◌≤◌, min, nat_lt, if◌then◌else◌, List, [], ◌∷◌, length, take}
use Rattle.std.specs.List.{flat_map, prefix_len}
use Rattle.std.proofs.Math.ListN.{replicate}
use Rattle.image_out.specs.Pixels.{Pixel, is_same, turned}

-- so many times one pixel, or pixels one after another
pub data Packet : Type 0 where
  Run : (count : ℕ) (pixel : Pixel) → Packet
  Raw : (pixels : List Pixel) → Packet

-- the pixels that a packet stands for
abbrev pub packet_pixels : Packet → List Pixel
packet_pixels (Run count pixel) = replicate count pixel
packet_pixels (Raw pixels) = pixels

abbrev pub pixel_count : Packet → ℕ
pixel_count (Run count pixel) = count
pixel_count (Raw pixels) = length pixels

-- a packet has 1 to 128 pixels
abbrev pub IsPacket : Packet → Type 0
IsPacket packet = (1 ≤ pixel_count packet) × (pixel_count packet ≤ 128)

-- the high bit marks a run, and the other seven are the count less one
abbrev pub packet_bytes : Packet → List ℕ
packet_bytes (Run count pixel) = (127 + count) ∷ turned pixel
packet_bytes (Raw pixels) = (length pixels - 1) ∷ flat_map turned pixels

-- how many pixels are like the first one, from there on
abbrev pub alike_here : List Pixel → ℕ
alike_here [] = 0
alike_here (pixel ∷ row) = 1 + prefix_len (is_same pixel) row

-- how many pixels stand before the first one that is like its right neighbour
unfoldable pub unlike : List Pixel → ℕ
unlike [] = 0
unlike (p ∷ []) = 1
unlike (p ∷ q ∷ row) = if is_same p q then 0 else 1 + unlike (q ∷ row)

-- the longest run where the first pixel is like its right neighbour, else all before the next run; at most 128 pixels
abbrev pub packet_here : List Pixel → Packet
packet_here [] = Raw []
packet_here (pixel ∷ row) =
    if nat_lt 1 (alike_here (pixel ∷ row)) then Run (min 128 (alike_here (pixel ∷ row))) pixel
    else Raw (take (min 128 (unlike (pixel ∷ row))) (pixel ∷ row))

-- the packets of a row, where so many pixels are still to be passed over
unfoldable pub packets_from : ℕ → List Pixel → List Packet
packets_from skip [] = []
packets_from (suc skip) (pixel ∷ row) = packets_from skip row
packets_from zero (pixel ∷ row) =
    packet_here (pixel ∷ row) ∷ packets_from (pixel_count (packet_here (pixel ∷ row)) - 1) row

abbrev pub packets_of : List Pixel → List Packet
packets_of row = packets_from 0 row

-- packets one after another
abbrev pub row_bytes : List Packet → List ℕ
row_bytes packets = flat_map packet_bytes packets

-- the packets of each row: none goes on in the next row
abbrev pub packed : List (List Pixel) → List ℕ
packed rows = flat_map (λ row. row_bytes (packets_of row)) rows
