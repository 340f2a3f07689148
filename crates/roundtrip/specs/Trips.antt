-- The two round trips: what is built is read as it was, and what was read is built as it was.
use Rattle.std.specs.Prelude.{◌≡◌, ℕ, ◌+◌, ◌-◌, ◌*◌, ◌/◌, ◌%◌, ◌^◌, ◌<◌, ◌≤◌, false, ◌≢◌, List, length, drop, Ok, slice_index}
use Rattle.frames.specs.declared.data_type.DataType.{DataType}
use Rattle.frames.specs.declared.data_type.DataType.TheVariants.{Checked, Plain}
use Rattle.frames.specs.declared.procedure.Procedure.{Procedure}
use Rattle.frames.specs.declared.procedure.Procedure.TheVariants.{Initialisation, RateControl, TimeAlignment, ErrorEvent}
use Rattle.frames.specs.Contents.{Contents, parsed, sum_field}
use Rattle.frames.specs.Contents as seen
use Rattle.frames.specs.Extent.{octets_for}
use Rattle.frames.specs.Frame.{longest}
use Rattle.frames.specs.Values.{shift_of}
use Rattle.payloads.specs.Payloads.{count_in, barred}
use Rattle.building.specs.UserData as payload
use Rattle.roundtrip.specs.Messages.{Message, user, link, rate, alignment, event, ack, nack, told, sent}

-- values that fit their fields
abbrev pub Fits : Message → Type 0
Fits (user t n f i x) = (n < 16) × (f < 4) × (i < 64)
Fits (link n x) = n < 4
Fits (rate n bars) = (n < 4) × (length bars ≤ 63)
Fits (alignment n o) = (n < 4) × (shift_of o ≡ Ok o)
Fits (event n d c) = (n < 4) × (c < 64)
Fits (ack q n) = n < 4
Fits (nack q n c) = (n < 4) × (c < 64)

-- what is built is read as it was
abbrev pub BuiltIsRead : Type 0
BuiltIsRead = (m : Message) → Fits m → length (sent m) ≤ longest → told (sent m) ≡ Ok m

-- no bit after the marks is set, to the end of their last octet
abbrev pub PaddingZero : List ℕ → Type 0
PaddingZero x = (k : ℕ) → count_in x ≤ k → k < 8 * octets_for (count_in x) → barred (drop 1 x) k ≡ false

-- of a question: spare and padding bits are zero, and no spare extension follows
abbrev pub ExactQuestion : Procedure → List ℕ → Type 0
ExactQuestion Initialisation x = Unit {0}
ExactQuestion RateControl x = (slice_index x 0 / 64 ≡ 0) × PaddingZero x × (length x ≡ 1 + octets_for (count_in x))
ExactQuestion TimeAlignment x = length x ≡ 1
ExactQuestion ErrorEvent x = length x ≡ 1

abbrev pub ExactData : DataType → List ℕ → Type 0
ExactData Checked o = Unit {0}
ExactData Plain o = slice_index o 2 % 4 ≡ 0

-- spare and padding bits are zero, and no spare extension follows
abbrev pub ExactAs : List ℕ → Contents → Type 0
ExactAs o (seen.user_data t n f i c p x) = ExactData t o
ExactAs o (seen.question n v q c p x) = ExactQuestion q x
ExactAs o (seen.ack n v q p x) = (sum_field o ≡ 0) × (length x ≡ 0)
ExactAs o (seen.nack n v q p x) = (sum_field o ≡ 0) × (slice_index x 0 % 4 ≡ 0) × (length x ≡ 1)

abbrev pub Exact : List ℕ → Type 0
Exact o = (c : Contents) → parsed o ≡ Ok c → ExactAs o c

-- what was read and accepted, which asks for right checksums, is built as it was
abbrev pub ReadIsBuilt : Type 0
ReadIsBuilt =
    (o : List ℕ) (m : Message) → ((k : ℕ) → slice_index o k < 256) → told o ≡ Ok m → Exact o → sent m ≡ o

-- user data of some bits: what is built is read as its padded payload
abbrev pub DataIsRead : Type 0
DataIsRead =
    (t : DataType) (n f i bits : ℕ) (x o : List ℕ) → payload.user_data t n f i bits x ≡ Ok o → told o ≡ Ok (user t n f i (payload.padded bits x))

-- the bits after the last one of the payload
abbrev pub DataPaddingZero : ℕ → List ℕ → Type 0
DataPaddingZero bits x = bits % 8 ≢ 0 → slice_index x (bits / 8) % 2 ^ (8 - bits % 8) ≡ 0

-- what was read and accepted is built as it was, from as many bits as its octets hold
abbrev pub DataIsBuilt : Type 0
DataIsBuilt =
    (o : List ℕ) (t : DataType) (n f i bits : ℕ) (x : List ℕ) → ((k : ℕ) → slice_index o k < 256) → told o ≡ Ok (user t n f i x) → Exact o → length x ≡ octets_for bits → DataPaddingZero bits x → payload.user_data t n f i bits x ≡ Ok o
