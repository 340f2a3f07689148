-- The two answers at one point of the code begin alike: that point was tried as the type of a helper, and has no name that can be given here.
use Rattle.std.proofs.Common.{rules, ◌≡◌, ◌+◌, ◌≤◌, not, length, drop, Some, None, Err, sym, ap, ◌∙◌, arith}
use Rattle.std.proofs.lemmas.Bool.{cond_both}
use Rattle.frames.specs.declared.refusal.Refusal.TheVariants.{UnexpectedValue}
use Rattle.sets.specs.Openings.{Values}
use Rattle.sets.specs.Contents.{Contents}
use Rattle.sets.proofs.Opens.{opening_same}
use Rattle.link_reading.specs.Layout.{rows_of, halves_from}
use Rattle.link_reading.specs.Adding.{add_all}
use Rattle.link_reading.specs.Links.{Links}
use Rattle.link_reading.specs.Holding.{answer, after}
use Rattle.link_reading.proofs.Room.{roomy, rows_in-length}
use Rattle.link_reading.proofs.Holds.{all_length}
use Rattle.link_reading.proofs.Judges.{was_read, ruled_range, ruled_alone, ruled-rows, range_refused, range_asked, kept_refused, kept_added, follows_same}
use Rattle.link_reading.proofs.held.Held.extend.Goals as goal

pub returns-in_err-opening-clause-answer : goal.returns-in_err-opening-clause-answer
returns-in_err-opening-clause-answer c =
    let f = c.args.fields in
    let r = range_refused c.new.result _ UnexpectedValue c.in_err-opening.ensures in
    let e = r.2 in
    let x : c.from_residual.result ≡ Err UnexpectedValue = search rules in
    x ∙ sym (ap answer (ruled_range c.args.self.now c.args.number c.args.payload.now f r.0 (sym c.new.ensures ∙ r.1)))

pub returns-in_err-opening-clause-held : goal.returns-in_err-opening-clause-held
returns-in_err-opening-clause-held c =
    let f = c.args.fields in
    let r = range_refused c.new.result _ UnexpectedValue c.in_err-opening.ensures in
    sym (ap (after c.args.self.now) (ruled_range c.args.self.now c.args.number c.args.payload.now f r.0 (sym c.new.ensures ∙ r.1)))

pub returns-then-not-may_come-clause-answer : goal.returns-then-not-may_come-clause-answer
returns-then-not-may_come-clause-answer c =
    let f = c.args.fields in
    let o = c.in_ok-opening.opening in
    let r = range_asked _ _ _ _ c.new.ensures c.in_ok-opening.ensures in
    sym (ap answer (ruled_alone c.args.self.now c.args.number c.args.payload.now f o r (sym c.if-not-may_come.ensures)))

pub returns-then-not-may_come-clause-held : goal.returns-then-not-may_come-clause-held
returns-then-not-may_come-clause-held c =
    let f = c.args.fields in
    let o = c.in_ok-opening.opening in
    let r = range_asked _ _ _ _ c.new.ensures c.in_ok-opening.ensures in
    sym (ap (after c.args.self.now) (ruled_alone c.args.self.now c.args.number c.args.payload.now f o r (sym c.if-not-may_come.ensures)))

pub begun-draft-requires : goal.begun-draft-requires
begun-draft-requires c =
    let f = c.args.fields in
    let o = c.in_ok-opening.opening in
    let r = range_asked _ _ _ _ c.new.ensures c.in_ok-opening.ensures in
    λ z. follows_same c.args.self.now c.args.number f o (sym c.if-not-may_come.ensures) z r

pub admit-requires : goal.admit-requires
admit-requires c =
    let f = c.args.fields in
    let o = c.in_ok-opening.opening in
    let r = range_asked _ _ _ _ c.new.ensures c.in_ok-opening.ensures in
    let s = opening_same f.subflows f.timed f.kind o r in
    let b = ap (λ (d : Contents). d.opening) c.begun-draft.ensures in
    record { read = was_read c.args.payload.now f c.requires.read; subflows = ap (λ (v : Values). v.subflows) b ∙ s.0; timed = ap (λ (v : Values). v.timed) b ∙ s.1 }

pub returns-in_err-or-clause-answer : goal.returns-in_err-or-clause-answer
returns-in_err-or-clause-answer c =
    let h = c.args.self.now in
    let f = c.args.fields in
    let os = c.args.payload.now in
    let o = c.in_ok-opening.opening in
    let r = range_asked _ _ _ _ c.new.ensures c.in_ok-opening.ensures in
    let k = kept_refused c.admit.result _ UnexpectedValue c.admit.new.draft.combinations c.in_err-or.ensures in
    let b = ap (λ (d : Contents). add_all f.subflows f.timed d.combinations (rows_of f os)) c.begun-draft.ensures in
    let e = ruled-rows h c.args.number os f o None r (sym c.if-not-may_come.ensures) (k.0 ∙ c.admit.ensures.rows ∙ b) in
    let i = k.1 in
    let x : c.from_residual-in_err-or.result ≡ Err UnexpectedValue = search rules in
    x ∙ sym (ap answer e)

pub returns-in_err-or-clause-held : goal.returns-in_err-or-clause-held
returns-in_err-or-clause-held c =
    let h = c.args.self.now in
    let f = c.args.fields in
    let os = c.args.payload.now in
    let o = c.in_ok-opening.opening in
    let r = range_asked _ _ _ _ c.new.ensures c.in_ok-opening.ensures in
    let k = kept_refused c.admit.result _ UnexpectedValue c.admit.new.draft.combinations c.in_err-or.ensures in
    let b = ap (λ (d : Contents). add_all f.subflows f.timed d.combinations (rows_of f os)) c.begun-draft.ensures in
    sym (ap (after h) (ruled-rows h c.args.number os f o None r (sym c.if-not-may_come.ensures) (k.0 ∙ c.admit.ensures.rows ∙ b)))

pub returns : goal.returns
returns c =
    let h = c.args.self.now in
    let k = c.args.number in
    let f = c.args.fields in
    let os = c.args.payload.now in
    let o = c.in_ok-opening.opening in
    let r = range_asked _ _ _ _ c.new.ensures c.in_ok-opening.ensures in
    let R = c.admit.new.draft.combinations in
    let x = kept_added c.admit.result _ UnexpectedValue R c.in_ok-or.ensures in
    let b = ap (λ (d : Contents). add_all f.subflows f.timed d.combinations (rows_of f os)) c.begun-draft.ensures in
    let e = ruled-rows h k os f o (Some R) r (sym c.if-not-may_come.ensures) (x ∙ c.admit.ensures.rows ∙ b) in
    let w : c.admit.new.draft.opening ≡ o = c.admit.ensures.opening ∙ ap (λ (d : Contents). d.opening) c.begun-draft.ensures in
    let g : (d : Contents) → Links = λ d. record { contents = d; versions = f.versions; links = k + 1; complete = not f.chain } in
    let v = ap (λ (s : Values). g (record { opening = s; combinations = R })) w in
    record { answer = sym (ap answer e); held = ap g c.drafted.ensures ∙ v ∙ sym (ap (after h) e) }

pub invariant_of-self : goal.invariant_of-self
invariant_of-self c =
    let f = c.args.fields in
    let os = c.args.payload.now in
    let R = c.admit.new.draft.combinations in
    let r = roomy os f (was_read os f c.requires.read) in
    let x = kept_added c.admit.result _ UnexpectedValue R c.in_ok-or.ensures in
    let a = all_length f.subflows f.timed c.begun-draft.result.combinations (rows_of f os) R (x ∙ c.admit.ensures.rows) in
    let l = rows_in-length f.count f.subflows (drop 1 os) (halves_from f.timed f.place os) in
    let d = c.drafted.result.combinations in
    let q = ap (λ (d : Contents). length d.combinations) c.drafted.ensures in
    let one : 1 ≤ length d = omega (arith, r.some) in
    cond_both (not f.chain) 1 0 (λ x. x ≤ length d) (λ e. one) (λ e. omega arith)
