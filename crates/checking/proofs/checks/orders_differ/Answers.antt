use Rattle.std.proofs.Common.{◌≡◌, ◌∙◌, sym, ap, subst, ℕ, suc, true, false, get_or, arith}
use Rattle.matching.specs.Lists.{count_if, any}
use Rattle.matching.specs.Orders.{Key, same_order}
use Rattle.rules.specs.Layout.{number_at, key_at}
use Rattle.checking.specs.Slots.{whole, held_on}
use Rattle.checking.proofs.Chunks.{key-in, number-in}
use Rattle.checking.proofs.HeldOrders.{Walked, walked_none, walked_free, walked_held, walked_all, twice, fresh-number, fresh_key}
use Rattle.checking.proofs.checks.orders_differ.Goals as goal
use Rattle.checking.proofs.checks.orders_differ.Goals.{then-key-ne-NO_ORDER+else-seen-number, else-seen-number-via-then-seen-number+else-stands_within, else-seen-number-via-else-seen-number, else-key-ne-NO_ORDER}

pub loop-before-init : goal.loop-before-init
loop-before-init c = walked_none c.args.board.now

pub returns-then-stands_within : goal.returns-then-stands_within
returns-then-stands_within c =
    let w = c.args.board.now in
    let l = c.loop-before in
    let many = whole c.args.n w in
    let slots = c.slots_of-slot-items.result.now in
    let number = number-in w c.args.n l.before slots c.slots_of-slot-items.ensures.words c.loop-before-test.true in
    let key = key-in w c.args.n l.before slots c.slots_of-slot-items.ensures.words c.loop-before-test.true in
    let stands : any (same_order (key_at w (suc l.before))) (held_on l.before w) ≡ true =
    ap (λ (k : Key). any (same_order k) (held_on l.before w)) (sym key) ∙ sym c.stands_within.ensures ∙ c.if-stands_within.true in
    sym (twice w l.seen l.before l.invariant (λ z. c.if-key-ne-NO_ORDER.true (number ∙ z)) many (omega arith) stands)

pub loop-before-preserved : goal.loop-before-preserved
loop-before-preserved c =
    let w = c.args.board.now in
    let l = c.loop-before in
    let slots = c.slots_of-slot-items.result.now in
    let number = number-in w c.args.n l.before slots c.slots_of-slot-items.ensures.words c.loop-before-test.true in
    let key = key-in w c.args.n l.before slots c.slots_of-slot-items.ensures.words c.loop-before-test.true in
    let its = key_at w (suc l.before) in
    elim c.if-key-ne-NO_ORDER.branch [
      | then-key-ne-NO_ORDER+else-seen-number e ↦
          let read = e.from-number.ensures ∙ number in
          let named = λ (z : number_at w (suc l.before) ≡ 0). e.if-key-ne-NO_ORDER.true (number ∙ z) in
          let fresh : count_if (same_order its) (held_on l.before w) ≡ 0 =
          elim e.else-seen-number.branch [
            | else-seen-number-via-then-seen-number+else-stands_within m ↦
                fresh_key w l.seen l.before l.invariant named
                (ap (λ (k : Key). any (same_order k) (held_on l.before w)) (sym key) ∙ sym m.stands_within.ensures ∙ m.if-stands_within.false)
            | else-seen-number-via-else-seen-number m ↦
                fresh-number w l.seen l.before l.invariant named (ap (λ (v : ℕ). get_or l.seen v false) (sym read) ∙ m.if-seen-number.false)
          ] in
          let next = walked_held w l.seen l.before l.invariant named (omega (arith, read)) fresh in
          rw (e.seen-is, read) (search next)
      | else-key-ne-NO_ORDER e ↦ rw e.seen-is (walked_free w l.seen l.before l.invariant (sym number ∙ e.if-key-ne-NO_ORDER.false))
    ]

pub returns : goal.returns
returns c =
    let w = c.args.board.now in
    let l = c.loop-before in
    let many = whole c.args.n w in
    let end : l.before ≡ many = omega arith in
    sym (walked_all w l.seen many (subst (λ (k : ℕ). Walked w l.seen k) end l.invariant))
