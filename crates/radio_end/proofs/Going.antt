-- What a call does to the meaning of a radio end, for the ledger.
use Rattle.std.proofs.Common.{◌≡◌, ℕ, ◌<◌, ◌≤◌, Bool, false, cond, List, [], length, Some, None, Option, sym, refl, ap, ◌∙◌, subst, arith}
use Rattle.sets.specs.Contents.{Contents}
use Rattle.reports.specs.declared.ending.Kind.{Kind}
use Rattle.reports.specs.declared.ending.Kind.TheVariants.{Initialisation, RateControl, TimeAlignment}
use Rattle.reports.specs.declared.happening.Happening.{Happening}
use Rattle.reports.specs.Said.{delivered_in}
use Rattle.reports.specs.Effects.{Effect}
use Rattle.exchange.specs.declared.exchange.Exchange.{Exchange}
use Rattle.exchange.specs.declared.limits.Limits.{Limits}
use Rattle.exchange.specs.Books.{Mark, named, done_in}
use Rattle.exchange.proofs.Moves.{watched, Move, stays}
use Rattle.exchange.proofs.Exchanging.{only, Asks, Same}
use Rattle.bearer.specs.Bearing.{Bearing, standing}
use Rattle.bearer.specs.Ledgers.{Borne}
use Rattle.bearer.proofs.Carrying.{Carries, none_borne}
use Rattle.radio_end.specs.Radio.{Radio}
use Rattle.radio_end.specs.Steps.{on_bearing}
use Rattle.radio_end.specs.Ledger.{Sets, settled}

-- while an initialisation runs, no set is in force, and nothing else runs
abbrev pub Alone : Option (Exchange Contents) → Option Contents → Option (Exchange (List Bool)) → Option (Exchange ℕ) → Type 0
Alone None o x y = Unit {0}
Alone (Some a) o x y = (o ≡ None) × (x ≡ None) × (y ≡ None)

-- the numbers of questions stay below 4
pub record Sound (r : Radio) : Type 0 where
  pub links : Asks r.links
  pub rate : Asks r.rate.running
  pub alignment : Asks r.alignment.running
  pub rates : r.rate.next < 4
  pub alignments : r.alignment.next < 4
  pub alone : Alone r.links (standing r.bearing.force) r.rate.running r.alignment.running

-- the set that is offered
abbrev pub Offer : Option (Exchange Contents) → Option Contents → Type 0
Offer None o = Unit {0}
Offer (Some a) o = Some a.question ≡ o

-- the ledger has the sets of the end
pub record Stored (r : Radio) (z : Sets) : Type 0 where
  pub force : standing r.bearing.force ≡ z.force
  pub offer : Offer r.links z.offered

-- a call with marks ms that says s moves the exchange of each kind, and the ledger follows
pub record Goes (r : Radio) (ms : Kind → List Mark) (s : List Happening) (after : Sets → Sets) (r' : Radio) : Type 0 where
  pub settings : r'.bearing.settings ≡ r.bearing.settings
  pub sound : Sound r'
  pub links : Move r.bearing.settings.initialisation.ticks r.bearing.settings.initialisation.repeats (watched r.links) (ms Initialisation) (watched r'.links)
  pub rate : Move r.bearing.settings.rate.ticks r.bearing.settings.rate.repeats (watched r.rate.running) (ms RateControl) (watched r'.rate.running)
  pub alignment : Move r.bearing.settings.alignment.ticks r.bearing.settings.alignment.repeats (watched r.alignment.running) (ms TimeAlignment) (watched r'.alignment.running)
  pub stored : (z : Sets) → Stored r z → Stored r' (after z)
  pub borne : Borne (standing r.bearing.force) (delivered_in s)
  pub few : length s ≤ 4

-- nothing is named as done
pub unsettled : (r r' : Radio) (s : List Happening) → standing r'.bearing.force ≡ standing r.bearing.force → ((o : Option Contents) → Offer r.links o → Offer r'.links o) → done_in Initialisation s ≡ false → (z : Sets) → Stored r z → Stored r' (settled s z)
unsettled r r' s same offer none z h =
    record { force = same ∙ h.force ∙ ap (λ d. cond d z.offered z.force) (sym none); offer = offer z.offered h.offer }

-- a call that changes nothing and says nothing
pub unmoved : (r : Radio) → Sound r → Goes r (λ k. []) [] (settled []) r
unmoved r h = record { settings = refl; sound = h; links = stays; rate = stays; alignment = stays; stored = unsettled r r [] refl (λ o x. x) refl; borne = tt; few = omega arith }

pub as_it_was : (r : Radio) → Sound r → Goes r (λ k. []) [] (λ z. z) r
as_it_was r h = record { settings = refl; sound = h; links = stays; rate = stays; alignment = stays; stored = λ z x. x; borne = tt; few = omega arith }

-- what the bearer alone does
pub carried : {A : Type 0} (r : Radio) (f : Effect Bearing A) → Carries r.bearing f → Sound r → Goes r (λ k. named k f.says) f.says (settled f.says) (on_bearing r f).next
carried r f c h =
    record {
      settings = c.settings;
      sound = record { links = h.links; rate = h.rate; alignment = h.alignment; rates = h.rates; alignments = h.alignments; alone = subst (λ o. Alone r.links o r.rate.running r.alignment.running) (sym c.set) h.alone };
      links = rw (c.names Initialisation) stays;
      rate = rw (c.names RateControl) stays;
      alignment = rw (c.names TimeAlignment) stays;
      stored = unsettled r (on_bearing r f).next f.says c.set (λ o x. x) (c.done Initialisation);
      borne = c.borne;
      few = omega (arith, c.few);
    }

-- what is done to the exchange of kind k alone, in a call with marks ms
pub record Part {Q A : Type 0} (limits : Limits) (k : Kind) (ms : Kind → List Mark) (o : Option (Exchange Q)) (x : Effect (Option (Exchange Q)) A) : Type 0 where
  pub all : List Mark
  pub move : Move limits.ticks limits.repeats (watched o) all (watched x.next)
  pub marks : (j : Kind) → ms j ≡ only k j all
  pub asks : Asks x.next
  pub undone : done_in Initialisation x.says ≡ false
  pub plain : delivered_in x.says ≡ []
  pub few : length x.says ≤ 2

-- one for each of the two: they name two fields of one record
pub on_rate : {A : Type 0} (r : Radio) (ms : Kind → List Mark) (x : Effect (Option (Exchange (List Bool))) A) (n : ℕ) → Part r.bearing.settings.rate RateControl ms r.rate.running x → n < 4 → Alone r.links (standing r.bearing.force) x.next r.alignment.running → Sound r → Goes r ms x.says (settled x.says) (record r { rate = record { running = x.next; next = n } })
on_rate r ms x n p low alone h =
    record {
      settings = refl;
      sound = record { links = h.links; rate = p.asks; alignment = h.alignment; rates = low; alignments = h.alignments; alone = alone };
      links = rw (p.marks Initialisation) stays;
      rate = rw (p.marks RateControl) p.move;
      alignment = rw (p.marks TimeAlignment) stays;
      stored = unsettled r (record r { rate = record { running = x.next; next = n } }) x.says refl (λ o e. e) p.undone;
      borne = none_borne (standing r.bearing.force) (delivered_in x.says) p.plain;
      few = omega (arith, p.few);
    }

pub on_alignment : {A : Type 0} (r : Radio) (ms : Kind → List Mark) (x : Effect (Option (Exchange ℕ)) A) (n : ℕ) → Part r.bearing.settings.alignment TimeAlignment ms r.alignment.running x → n < 4 → Alone r.links (standing r.bearing.force) r.rate.running x.next → Sound r → Goes r ms x.says (settled x.says) (record r { alignment = record { running = x.next; next = n } })
on_alignment r ms x n p low alone h =
    record {
      settings = refl;
      sound = record { links = h.links; rate = h.rate; alignment = p.asks; rates = h.rates; alignments = low; alone = alone };
      links = rw (p.marks Initialisation) stays;
      rate = rw (p.marks RateControl) stays;
      alignment = rw (p.marks TimeAlignment) p.move;
      stored = unsettled r (record r { alignment = record { running = x.next; next = n } }) x.says refl (λ o e. e) p.undone;
      borne = none_borne (standing r.bearing.force) (delivered_in x.says) p.plain;
      few = omega (arith, p.few);
    }

-- with a set in force no initialisation runs
pub lone : (l : Option (Exchange Contents)) (c : Contents) (x x' : Option (Exchange (List Bool))) (y y' : Option (Exchange ℕ)) → Alone l (Some c) x y → Alone l (Some c) x' y'
lone None c x x' y y' h = tt
lone (Some a) c x x' y y' h = let e = h.0 in let z : ◌≡◌ {A = ℕ} 0 1 = cc in absurd (omega arith)

-- where none runs none begins
still_none : {Q : Type 0} (x x' : Option (Exchange Q)) → Same x x' → x ≡ None → x' ≡ None
still_none None x' s e = s
still_none (Some a) x' s e = let z : ◌≡◌ {A = ℕ} 0 1 = cc in absurd (omega arith)

-- one for each of the two, as above
pub lone_rate : (l : Option (Exchange Contents)) (o : Option Contents) (x x' : Option (Exchange (List Bool))) (y : Option (Exchange ℕ)) → Same x x' → Alone l o x y → Alone l o x' y
lone_rate None o x x' y s h = tt
lone_rate (Some a) o x x' y s h = (h.0, still_none x x' s h.1, h.2)

pub lone_alignment : (l : Option (Exchange Contents)) (o : Option Contents) (x : Option (Exchange (List Bool))) (y y' : Option (Exchange ℕ)) → Same y y' → Alone l o x y → Alone l o x y'
lone_alignment None o x y y' s h = tt
lone_alignment (Some a) o x y y' s h = (h.0, h.1, still_none y y' s h.2)
