-- Frames worked by hand: their octets, what the header says, and what the frame tells.
use Rattle.std.specs.Prelude.{◌≡◌, ℕ, zero, suc, List, [], ◌∷◌, Ok, Err, Result}
use Rattle.frames.specs.declared.data_type.DataType.TheVariants.{Checked, Plain}
use Rattle.frames.specs.declared.distance.Distance.TheVariants.{Here}
use Rattle.frames.specs.declared.header.Header.{Header}
use Rattle.frames.specs.declared.header.PduType.{PduType}
use Rattle.frames.specs.declared.header.PduType.TheVariants.{CheckedData, PlainData, Control}
use Rattle.frames.specs.declared.procedure.Procedure.TheVariants.{Initialisation}
use Rattle.frames.specs.declared.refusal.Refusal.{Refusal}
use Rattle.frames.specs.declared.refusal.Refusal.TheVariants.{PduType as NoSuchType}
use Rattle.frames.specs.Headers.{header_in}
use Rattle.roundtrip.specs.Messages.{Message, user, link, alignment, event, ack, nack, told}

pub record Row : Type 0 where
  pub octets : List ℕ
  pub header : Result Header Refusal
  pub tells : Result Message Refusal

-- type, octets of the header, octets of the payload
abbrev pub headed : PduType → ℕ → ℕ → Result Header Refusal
headed t h p = Ok (record { pdu_type = t; header_length = h; payload_length = p })

-- an offer of RFCI 0 with one subflow of 40 bits, in type 1
abbrev pub offer : List ℕ
offer = 0x02 ∷ 0x80 ∷ 0x28 ∷ 0x00 ∷ 0x01 ∷ 0x10 ∷ []

abbrev pub rows : List Row
rows =
    record { octets = 0xe4 ∷ 0x00 ∷ 0x24 ∷ 0x00 ∷ []; header = headed Control 4 0; tells = Ok (ack Initialisation 0) }
    ∷ record { octets = 0xe8 ∷ 0x00 ∷ 0x90 ∷ 0x00 ∷ 0x50 ∷ []; header = headed Control 4 1; tells = Ok (nack Initialisation 0 20) }
    ∷ record { octets = 0xe0 ∷ 0x02 ∷ 0x1a ∷ 0x33 ∷ 0x01 ∷ []; header = headed Control 4 1; tells = Ok (alignment 0 1) }
    ∷ record { octets = 0xe0 ∷ 0x03 ∷ 0xa4 ∷ 0x66 ∷ 0x03 ∷ []; header = headed Control 4 1; tells = Ok (event 0 Here 3) }
    ∷ record { octets = 0x20 ∷ 0x00 ∷ 0x8c ∷ []; header = Err NoSuchType; tells = Err NoSuchType }
    ∷ record { octets = 0xe0 ∷ 0x00 ∷ 0xdc ∷ 0xd8 ∷ offer; header = headed Control 4 6; tells = Ok (link 0 offer) }
    ∷ record { octets = 0x10 ∷ 0x00 ∷ 0x98 ∷ 0x01 ∷ 0x02 ∷ 0x03 ∷ 0x04 ∷ 0x05 ∷ []; header = headed PlainData 3 5; tells = Ok (user Plain 0 0 0 (1 ∷ 2 ∷ 3 ∷ 4 ∷ 5 ∷ [])) }
    ∷ record { octets = 0x01 ∷ 0x02 ∷ 0x24 ∷ 0x00 ∷ []; header = headed CheckedData 4 0; tells = Ok (user Checked 1 0 2 []) }
    ∷ []

-- a row is right if the definitions by which every frame is read say the same
pub record Right (r : Row) : Type 0 where
  pub header : header_in r.octets ≡ r.header
  pub tells : told r.octets ≡ r.tells

abbrev pub AllRight : List Row → Type 0
AllRight [] = Unit {0}
AllRight (r ∷ rs) = Right r × AllRight rs

-- the octets of a row, and none past the last one
abbrev pub octets_at : ℕ → List Row → List ℕ
octets_at n [] = []
octets_at zero (r ∷ rs) = r.octets
octets_at (suc n) (r ∷ rs) = octets_at n rs
