-- What the reader of packets has taken from the bytes on its way, packet by packet.
use Rattle.std.specs.Prelude.{ℕ, ◌≡◌, ◌≤◌, List, ◌++◌}
use Rattle.std.specs.List.{flat_map}
use Rattle.image_out.specs.Packets.{Packet, packet_pixels, packet_bytes, pixel_count, IsPacket}
use Rattle.image_out.specs.Pixels.{turned}
use Rattle.image_out.specs.Unpacking.{IsPart, pixels_in}

-- the bytes are a packet and a rest, and the packet's triples follow the others
pub record ReadsPacket (left count : ℕ) (bytes rest old new : List ℕ) : Type 0 where
  pub packet : Packet
  pub sound : IsPacket packet
  pub count_is : pixel_count packet ≡ count
  pub fits : count ≤ left
  pub bytes_are : bytes ≡ packet_bytes packet ++ rest
  pub triples : new ≡ old ++ flat_map turned (packet_pixels packet)

-- packets that leave so many pixels of a row open, and their triples behind the others
abbrev pub ReadsPart : ℕ → ℕ → List ℕ → List ℕ → List ℕ → List ℕ → Type 0
ReadsPart width left bytes rest old new =
    (packets : List Packet) × IsPart width left bytes rest packets × (new ≡ old ++ flat_map turned (pixels_in packets))
