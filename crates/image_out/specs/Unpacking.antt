-- What packets unpack to. (Truevision TGA 2.0, image types 9 to 11)
use Rattle.std.specs.Prelude.{ℕ, ◌≡◌, ◌⊎◌, ◌+◌, ◌*◌, ◌%◌, ◌<◌, ◌≤◌, nat_lt, if◌then◌else◌, List, [], ◌∷◌, ◌++◌, length, All}
use Rattle.std.specs.List.{flat_map}
use Rattle.image_out.specs.declared.unpack.RleFault.{RleFault}
use Rattle.image_out.specs.declared.unpack.RleFault.TheVariants.{Short, PastRow, Long, NoMemory}
use Rattle.image_out.specs.Pixels.{Pixel, turned}
use Rattle.image_out.specs.Packets.{Packet, packet_pixels, IsPacket, row_bytes}

-- the pixels of packets one after another
abbrev pub pixels_in : List Packet → List Pixel
pixels_in packets = flat_map packet_pixels packets

-- packets whose counts sum to the width
pub record IsRow (width : ℕ) (packets : List Packet) : Type 0 where
  pub each : All IsPacket packets
  pub whole : length (pixels_in packets) ≡ width

-- no bytes unpack to no row; the packets of a row, and behind them bytes that unpack to further rows, to that row and these
abbrev pub Unpacks : ℕ → List ℕ → List (List Pixel) → Type 0
Unpacks width bytes [] = bytes ≡ []
Unpacks width bytes (row ∷ rows) =
    (packets : List Packet) × (rest : List ℕ) × IsRow width packets × (pixels_in packets ≡ row)
    × (bytes ≡ row_bytes packets ++ rest) × Unpacks width rest rows

-- how many pixels a packet with this first byte has
abbrev pub count_of : ℕ → ℕ
count_of head = head % 128 + 1

-- how many bytes follow its first byte
abbrev pub body_length : ℕ → ℕ
body_length head = if nat_lt head 128 then 3 * count_of head else 3

-- there is no packet, or one that fits the row and whose bytes aren't all there
abbrev pub IsCut : ℕ → List ℕ → Type 0
IsCut left [] = Unit {0}
IsCut left (head ∷ body) = (count_of head ≤ left) × (length body < body_length head)

-- there is a packet that has more pixels than the row
abbrev pub IsTooLong : ℕ → List ℕ → Type 0
IsTooLong left [] = ⊥
IsTooLong left (head ∷ body) = left < count_of head

-- a packet can't be read where so many pixels of a row are open
abbrev pub IsPacketFault : ℕ → List ℕ → RleFault → Type 0
IsPacketFault left bytes Short = IsCut left bytes
IsPacketFault left bytes PastRow = IsTooLong left bytes
IsPacketFault left bytes Long = ⊥
IsPacketFault left bytes NoMemory = Unit {0}

-- the bytes are these packets and a rest; the packets leave so many pixels of a row open
pub record IsPart (width left : ℕ) (bytes rest : List ℕ) (packets : List Packet) : Type 0 where
  pub each : All IsPacket packets
  pub open_pixels : length (pixels_in packets) + left ≡ width
  pub bytes_are : bytes ≡ row_bytes packets ++ rest

-- behind packets that leave a row open, a packet can't be read
abbrev pub IsRowFault : ℕ → List ℕ → RleFault → Type 0
IsRowFault width bytes fault =
    (packets : List Packet) × (left : ℕ) × (rest : List ℕ) × IsPart width left bytes rest packets × (0 < left)
    × IsPacketFault left rest fault

-- the bytes are so many whole rows and a rest
pub record AreRows (width count : ℕ) (bytes rest : List ℕ) (rows : List (List Packet)) : Type 0 where
  pub whole : All (IsRow width) rows
  pub count_is : length rows ≡ count
  pub bytes_are : bytes ≡ flat_map row_bytes rows ++ rest

-- fewer rows than the picture has, and behind them one that can't be read
abbrev pub HasRowFault : ℕ → ℕ → List ℕ → RleFault → Type 0
HasRowFault width height bytes fault =
    (rows : List (List Packet)) × (count : ℕ) × (rest : List ℕ) × AreRows width count bytes rest rows × (count < height)
    × IsRowFault width rest fault

-- the first fault by place, where a packet stands at its first byte; memory may lack anywhere
abbrev pub IsFault : ℕ → ℕ → List ℕ → RleFault → Type 0
IsFault width height bytes Short = HasRowFault width height bytes Short
IsFault width height bytes PastRow = HasRowFault width height bytes PastRow
IsFault width height bytes Long =
    (rows : List (List Packet)) × (rest : List ℕ) × AreRows width height bytes rest rows × (0 < length rest)
IsFault width height bytes NoMemory = Unit {0}

-- two faults of the same bytes are one, but memory may lack
abbrev pub IsOneFault : RleFault → RleFault → Type 0
IsOneFault f g = (f ≡ g) ⊎ ((f ≡ NoMemory) ⊎ (g ≡ NoMemory))

-- rows with each pixel in the order blue, green, red
abbrev pub turned_rows : List (List Pixel) → List ℕ
turned_rows rows = flat_map (λ row. flat_map turned row) rows

-- the bytes unpack to the rows of a picture, and these are their triples
abbrev pub ReadsPicture : ℕ → ℕ → List ℕ → List ℕ → Type 0
ReadsPicture width height bytes triples =
    (rows : List (List Pixel)) × Unpacks width bytes rows × (length rows ≡ height) × (triples ≡ turned_rows rows)
