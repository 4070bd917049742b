-- How a text grows in the memory that is reserved for it.
--
--   heading_room, area_room, flow_room, bid_room, total_room
--              bytes that hold the heading, and a line of each kind
--   HasRoom    so many bytes can still be written
--   Wrote      a piece was written behind the text, in the memory that it had, and is no longer than a bound
use Rattle.std.specs.Prelude.{◌≡◌, ℕ, ◌+◌, ◌≤◌, List, ◌++◌, vec_len}
use Rattle.listing.specs.declared.text.Text.{Text}
use Rattle.listing.specs.View.{text_of, room_of}

abbrev pub heading_room : ℕ
heading_room = 49

abbrev pub area_room : ℕ
area_room = 160

abbrev pub flow_room : ℕ
flow_room = 48

abbrev pub bid_room : ℕ
bid_room = 48

abbrev pub total_room : ℕ
total_room = 96

abbrev pub HasRoom : ℕ → Text → Type 0
HasRoom n t = vec_len t.bytes + n ≤ room_of t

pub record Wrote (bound : ℕ) (before after : Text) (piece : List ℕ) : Type 0 where
  pub items : text_of after ≡ text_of before ++ piece
  pub memory : room_of after ≡ room_of before
  pub short : vec_len after.bytes ≤ vec_len before.bytes + bound
