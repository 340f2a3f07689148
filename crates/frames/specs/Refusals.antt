-- The number that names each refusal. A promise that names a case means its number.
use Rattle.std.specs.Prelude.{ℕ}
use Rattle.frames.specs.declared.refusal.Refusal.{Refusal}
use Rattle.frames.specs.declared.refusal.Refusal.TheVariants.{HeaderChecksum, PayloadChecksum, PduType, Procedure, ReservedValue, TooShort, UnexpectedPduType, UnexpectedProcedure, UnknownRfci, UnexpectedValue, ModeVersion, TooLong, SettingRange, HostHoldsQuestion, NotThisQuestion, LinkTooLong, LineDeclines, WrongPhase, AlreadyRuns, RfciBarred, OctetCount, RfciTaken, Dimensions, TooManyCombinations, NoCombination, ValueRange, Hexadecimal, NoSuchSizes, BufferTooSmall}

abbrev pub number_of : Refusal → ℕ
number_of HeaderChecksum = 0
number_of PayloadChecksum = 1
number_of PduType = 4
number_of Procedure = 5
number_of ReservedValue = 6
number_of TooShort = 8
number_of UnexpectedPduType = 16
number_of UnexpectedProcedure = 18
number_of UnknownRfci = 19
number_of UnexpectedValue = 20
number_of ModeVersion = 49
number_of TooLong = 100
number_of SettingRange = 101
number_of HostHoldsQuestion = 102
number_of NotThisQuestion = 103
number_of LinkTooLong = 104
number_of LineDeclines = 105
number_of WrongPhase = 106
number_of AlreadyRuns = 107
number_of RfciBarred = 108
number_of OctetCount = 109
number_of RfciTaken = 110
number_of Dimensions = 111
number_of TooManyCombinations = 112
number_of NoCombination = 113
number_of ValueRange = 114
number_of Hexadecimal = 115
number_of NoSuchSizes = 116
number_of BufferTooSmall = 117
