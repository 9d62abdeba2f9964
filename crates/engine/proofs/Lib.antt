pub mod HubsLaws
pub mod CountLaws
pub mod RunsLaws
pub mod OrdersLaws
pub mod Stands
pub mod Upholds
pub mod Theorems
