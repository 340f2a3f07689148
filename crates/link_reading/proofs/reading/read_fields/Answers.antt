-- The answers behind one another begin alike, as in `extend`: the points that they share have no name that can be given here.
use Rattle.std.proofs.Common.{rules, ◌≡◌, ◌+◌, ◌*◌, ◌-◌, ◌<◌, ◌≤◌, ◌∙◌, length, get_or, take, drop, sym, arith}
use Rattle.std.proofs.lemmas.List.{take_rest}
use Rattle.link_reading.specs.Layout.{chain_of}
use Rattle.link_reading.proofs.Whole.{Front, fields_none, fields_lost, fields_short, fields_full, chunk_at}
use Rattle.link_reading.proofs.reading.read_fields.Goals as goal

pub returns-in_err-first : goal.returns-in_err-first
returns-in_err-first c =
    let h : length c.args.payload.now < 1 = search rules in
    c.from_residual.ensures ∙ sym (fields_none c.args.payload.now h)

pub returns-in_err-extent : goal.returns-in_err-extent
returns-in_err-extent c =
    let os = c.args.payload.now in
    let r = c.in_ok-first.rest.now in
    let f : Front os r c.subflows_in-subflows.result c.is_timed-timed.result = search rules in
    c.from_residual-in_err-extent.ensures ∙ sym (fields_lost os r _ _ f (sym c.in_err-extent.ensures.is))

pub returns-in_err-get : goal.returns-in_err-get
returns-in_err-get c =
    let os = c.args.payload.now in
    let r = c.in_ok-first.rest.now in
    let e = c.in_ok-extent.extent in
    let t = take (length r - e.octets) (drop e.octets r) in
    let m = c.ipti_octets.result in
    let f : Front os r c.subflows_in-subflows.result c.is_timed-timed.result = search rules in
    let l : length t < m + 3 = search rules in
    c.from_residual-in_err-get.ensures ∙ sym (fields_short os r t _ _ m e f (take_rest r e.octets) (sym c.in_ok-extent.ensures.is) c.ipti_octets.ensures l)

pub returns-in_err-high : goal.returns-in_err-high
returns-in_err-high c =
    let os = c.args.payload.now in
    let r = c.in_ok-first.rest.now in
    let e = c.in_ok-extent.extent in
    let t = take (length r - e.octets) (drop e.octets r) in
    let m = c.ipti_octets.result in
    let g = c.in_ok-get.field-0.now in
    let f : Front os r c.subflows_in-subflows.result c.is_timed-timed.result = search rules in
    let k : length g + m ≡ length t = search rules in
    let l : length g < 3 = search rules in
    c.from_residual-in_err-high.ensures ∙ sym (fields_short os r t _ _ m e f (take_rest r e.octets) (sym c.in_ok-extent.ensures.is) c.ipti_octets.ensures (omega arith))

pub returns : goal.returns
returns c =
    let os = c.args.payload.now in
    let r = c.in_ok-first.rest.now in
    let e = c.in_ok-extent.extent in
    let t = take (length r - e.octets) (drop e.octets r) in
    let m = c.ipti_octets.result in
    let g = c.in_ok-get.field-0.now in
    let f : Front os r c.subflows_in-subflows.result c.is_timed-timed.result = search rules in
    let ch : c.is_chain.result ≡ chain_of (get_or os 0 0) = search rules in
    let q : g ≡ take (length t - m) (drop m t) = search rules in
    let p : g ≡ drop m t = q ∙ take_rest t m in
    let l : 3 ≤ length g = search rules in
    let i : c.in_ok-high.field-0-0.now ≡ take 3 g = search rules in
    let v : c.in_ok-high.over.now ≡ drop 3 g = search rules in
    let a = chunk_at g c.in_ok-high.field-0-0.now i in
    let all = fields_full os r t _ _ _ m e g f (take_rest r e.octets) ch (sym c.in_ok-extent.ensures.is) c.ipti_octets.ensures p l in
    let b : c.from_be_bytes.result ≡ get_or c.in_ok-high.field-0-0.now 0 0 * 256 + get_or c.in_ok-high.field-0-0.now 1 0 = search rules in
    rw (b, a.0, a.1, a.2, v) (sym all)
