pub mod PointPuts
pub mod FreshPoints
