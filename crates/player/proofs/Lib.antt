pub mod ElapsedLaws
pub mod TimeLaws
pub mod NumbersLaws
