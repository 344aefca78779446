use Rattle.std.proofs.Common.{◌≡◌, ℕ, suc, ◌+◌, ◌<◌, Bool, false, ◌||◌, List, length, get_or, drop, drop-cons, add-one, ap, ◌∙◌}
use Rattle.std.specs.List.{list_any}
use Rattle.host_net.specs.declared.service.Service.{Service}
use Rattle.host_net.specs.Service.{serves}
use Rattle.header_space.proofs.BoxLaws.{narrows_in, narrows_then}
use Rattle.policy_space.proofs.policy_box.one_serves_within.Goals as goal

-- A service that does not serve a packet may be omitted.
any_later : (f : Service → Bool) (xs : List Service) (i : ℕ) (d : Service) → i < length xs → f (get_or xs i d) ≡ false
    → list_any f (drop i xs) ≡ list_any f (drop (i + 1) xs)
any_later f xs i d low off =
    rw (add-one i) (ap (λ (ys : List Service). list_any f ys) (drop-cons xs i d low) ∙ (λ k. off k || list_any f (drop (suc i) xs)))

pub loop-service-preserved : goal.loop-service-preserved
loop-service-preserved c = record {
  narrows = narrows_then c.args.within.now c.loop-service.within c.narrow_by.new.self c.loop-service.invariant.narrows c.narrow_by.ensures.part;
  left = λ p inside.
      let so_far = c.loop-service.invariant.left p (narrows_in c.loop-service.within c.narrow_by.new.self p c.narrow_by.ensures.part inside) in
      so_far ∙ any_later (λ s. serves s p) c.args.services.now c.loop-service.service-index _ c.loop-service-test.true
      (c.header_of.ensures p ∙ c.narrow_by.ensures.alike p inside ∙ c.if-narrow_by.false);
}
