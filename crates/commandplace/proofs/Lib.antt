pub mod HexLaws
pub mod CommandLaws
