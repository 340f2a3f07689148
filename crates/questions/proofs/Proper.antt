-- Every kind of question has what the exchange asks of one.
use Rattle.std.proofs.Common.{◌≡◌, ℕ, ◌+◌, ◌<◌, true, false, eqb, ltb, Some, None, Ok, Err, Option, Result, sym, refl, ap, arith, ltb-true, eqb-true}
use Rattle.std.proofs.lemmas.Bool.{and_parts, cond_both}
use Rattle.frames.specs.declared.procedure.Procedure.TheVariants.{Initialisation, RateControl, TimeAlignment}
use Rattle.reports.specs.declared.ending.Kind.TheVariants.{Initialisation as Offer, RateControl as Rate, TimeAlignment as Alignment}
use Rattle.reports.specs.declared.ending.Ending.TheVariants.{NoAnswer, Rejected, RateFailure, AlignmentFailure}
use Rattle.link_building.specs.Wire.{links_of}
use Rattle.exchange.specs.Asked.{Proper, Fails}
use Rattle.questions.specs.declared.answer.AlignmentAnswer.{AlignmentAnswer}
use Rattle.questions.specs.declared.answer.AlignmentAnswer.TheVariants.{Aligned, NotSupported, NotPossible, Declined}
use Rattle.questions.specs.Answering.{acceptance_leads, alignment_of, alignment_leads, alignment_turns}
use Rattle.questions.specs.Kinds.{links_asked, links_frames, links_follow, rate_asked, rate_frames, alignment_asked, alignment_frames, alone}

none_follows : (m : ℕ) → false ≡ true → m < 3
none_follows m e = let z : ◌≡◌ {A = ℕ} 0 1 = cc in absurd (omega arith)

accepting : (o : Option ℕ) → Fails (acceptance_leads o)
accepting None = tt
accepting (Some c) = tt

aligning : (a : AlignmentAnswer) → Fails (alignment_leads a)
aligning Aligned = tt
aligning NotSupported = refl
aligning NotPossible = refl
aligning (Declined c) = tt

pub rate_proper : Proper RateControl Rate rate_asked rate_frames alone RateFailure RateFailure acceptance_leads
rate_proper = record { asked = λ q m. refl; coded = refl; few = λ q m e. none_follows m e; lapsing = refl; declining = refl; stopping = accepting }

pub alignment_proper : Proper TimeAlignment Alignment alignment_asked alignment_frames alone AlignmentFailure AlignmentFailure alignment_turns
alignment_proper = record { asked = λ q m. refl; coded = refl; few = λ q m e. none_follows m e; lapsing = refl; declining = refl; stopping = λ cause. aligning (alignment_of cause) }

pub links_proper : Proper Initialisation Offer links_asked links_frames links_follow NoAnswer Rejected acceptance_leads
links_proper =
    record {
      asked = λ q m. refl;
      coded = refl;
      few = λ q m e. ltb-true m 3 (and_parts (ltb m 3) (ltb (m + 1) (links_of q.combinations)) e).0;
      lapsing = refl;
      declining = refl;
      stopping = accepting;
    }
